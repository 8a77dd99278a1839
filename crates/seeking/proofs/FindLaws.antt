-- Finding a rule of a file, among those that are read.
--     rules-end, rest-whole        where rules end, and those of a whole file
--     standing-few, standing-unread, standing-cut, standing-unended, standing-left, standing-done      under a table
--     file-unread, file-read       in a file
use mathlib.Core.List.{List, ◌++◌}
use mathlib.Core.Path.{◌≡◌, refl, sym, ap, ◌∙◌}
use mathlib.Core.Bool.{true, false, false≢true}
use Prim.Native.Nat.{ℕ, ◌+◌, ◌-◌, ◌*◌, ◌≤◌, ◌<◌}
use native.Mathlib.Omega.{arith}
use lib.ListN.{length, length-append}
use lib.Seq.{drop_at}
use borrow.Author.Tests.{lt-ltb, le-ltb, le-leb, lt-leb}
use Rattle.multisets.proofs.Relations.{by_test}
use Rattle.terms.specs.Signature.{Signature}
use Rattle.format.specs.Layout.{form_number}
use Rattle.format.specs.Errors.{bad_padding}
use Rattle.format.specs.Reading.{Reading, bit_source, is_padding}
use Rattle.format.specs.Reading.Reading.{got, fault}
use Rattle.format.specs.Forms.{is_taken, unused_of}
use Rattle.format.specs.Format.{Sides, RuleFile, rules_reader}
use Rattle.format.specs.Files.{read_bytes}
use Rattle.format.proofs.FormLaws.{taken-unused}
use Rattle.format.proofs.ReadingLaws.{holds-got}
use Rattle.format.proofs.SpellingLaws.{spells→coded}
use Rattle.format.proofs.FormatLaws.{rules-read, rules-length}
use Rattle.format.proofs.CodingLaws.{bit-coding}
use Rattle.reader.specs.Source.{source_of}
use Rattle.reader.specs.Source.Input.{from_bytes}
use Rattle.reader.specs.File.{rest_reader}
use Rattle.reader.proofs.FileLaws.{rest-unread, rest-unended, rest_ended}
use Rattle.reader.proofs.RuleLaws.{done_all}
use Rattle.reader.proofs.RuleLaws as counted
use Rattle.seeking.specs.declared.Standing.{Standing}
use Rattle.seeking.specs.declared.Standing.TheVariants.{Bad, Done, Left}
use Rattle.seeking.specs.One.{rules_bits, standing_in, file_standing}

-- ---- where rules end

module _ (bytes : List ℕ) where
  pub rules-end : (unused : ℕ) (σ : Signature) (n at : ℕ) (rs : List Sides) (end : ℕ) →
      rules_reader (bit_source bytes) unused σ n at ≡ got rs end → at ≤ 8 * length bytes →
      (end ≡ at + rules_bits rs) × (end ≤ 8 * length bytes)
  rules-end unused σ n at rs end e h =
      let (count, ok, spelt) = holds-got _ _ rs end (rules-read (bit_source bytes) unused σ n at) e in
      let (fits, ends, last, agree) = spells→coded (bit-coding bytes) spelt h in
      (ends, last)

  -- A file of a form that is taken.
  module _ (form : ℕ) (taken : is_taken form_number form ≡ true) (σ : Signature) (count at : ℕ) where
    abbrev rules-here : Reading (List Sides)
    rules-here = rules_reader (bit_source bytes) (unused_of form_number) σ count at

    abbrev rest-here : Reading RuleFile
    rest-here = rest_reader form (from_bytes bytes) σ count at

    -- The rules of a file that is read whole are read up to its end.
    pub rest-whole : (file : RuleFile) (last : ℕ) → rest-here ≡ got file last →
        (rules : List Sides) × (rules-here ≡ got rules last) × (file ≡ record { form = form; signature = σ; rules = rules })
    unfolding rest_reader source_of
    rest-whole file last e = go rules-here refl
      where
        same : unused_of form ≡ unused_of form_number
        same = taken-unused form_number form taken

        go : (x : Reading (List Sides)) → rules-here ≡ x →
            (rules : List Sides) × (rules-here ≡ got rules last) × (file ≡ record { form = form; signature = σ; rules = rules })
        go (got rules next) r =
            by_test (is_padding bytes next)
            (λ p. let z : got (record { form = form; signature = σ; rules = rules }) next ≡ got file last = rw (same, r, p) at e in
            let q : record { form = form; signature = σ; rules = rules } ≡ file = cc in
            let m : next ≡ last = cc in
            (rules, rw (← m) r, sym q))
            λ p. let z : fault bad_padding next ≡ got file last = rw (same, r, p) at e in absurd (false≢true (cc))
        go (fault code offset) r =
            let z : fault code offset ≡ got file last = rw (same, r) at e in absurd (false≢true (cc))

    -- ---- finding a rule under a table

    module _ (marked : ℕ) where
      pub standing-few : count < marked → Bad ≡ standing_in marked rest-here
      standing-few h = go rest-here refl
        where
          go : (x : Reading RuleFile) → rest-here ≡ x → Bad ≡ standing_in marked rest-here
          go (got file last) e =
              let (rules, r, same) = rest-whole file last e in
              let n = rules-length (bit_source bytes) (unused_of form_number) σ count at rules last r in
              rw (e, same, lt-leb marked (length rules) (omega arith))
          go (fault code offset) e = rw e

      pub standing-unread : (code offset : ℕ) → rules-here ≡ fault code offset → Bad ≡ standing_in marked rest-here
      unfolding source_of
      standing-unread code offset e = rw (rest-unread form_number form taken (from_bytes bytes) σ count at code offset e)

      -- The rules that are marked are done, and the others are read from a bit on.
      module _ (few : marked ≤ count) (done : List Sides) (start : ℕ)
          (so : counted.Done (bit_source bytes) (unused_of form_number) σ count at marked start done) where
        pub standing-cut : (code offset : ℕ) →
            rules_reader (bit_source bytes) (unused_of form_number) σ (count - marked) start ≡ fault code offset →
            Bad ≡ standing_in marked rest-here
        standing-cut code offset e = standing-unread code offset (so ∙ rw e)

        module _ (rest : List Sides) (end : ℕ)
            (others : counted.Done (bit_source bytes) (unused_of form_number) σ (count - marked) start (count - marked)
            end rest)
          where
            others-read : rules_reader (bit_source bytes) (unused_of form_number) σ (count - marked) start ≡ got rest end
            others-read =
                done_all (bit_source bytes) (unused_of form_number) σ (count - marked) start (count - marked) end rest
                others (omega arith)

            all_read : rules-here ≡ got (done ++ rest) end
            all_read = so ∙ rw others-read

            pub standing-unended : is_padding bytes end ≡ false → Bad ≡ standing_in marked rest-here
            unfolding source_of
            standing-unended p =
                rw (rest-unended form_number form taken (from_bytes bytes) σ count at (done ++ rest) end all_read bad_padding end (rw p))

            module _ (ends : is_padding bytes end ≡ true) where
              whole : rest-here ≡ got (record { form = form; signature = σ; rules = done ++ rest }) end
              unfolding source_of
              whole = rest_ended form_number form taken (from_bytes bytes) σ count at (done ++ rest) end all_read end (rw ends)

              lengths : (length (done ++ rest) ≡ count) × (length done ≡ marked)
              lengths =
                  let n = rules-length (bit_source bytes) (unused_of form_number) σ count at (done ++ rest) end all_read in
                  let k = rules-length (bit_source bytes) (unused_of form_number) σ (count - marked) start rest end
                  others-read in
                  (n, omega (arith, length-append done rest))

              pub standing-left : start ≤ 8 * length bytes → marked < count → Left start ≡ standing_in marked rest-here
              standing-left h less =
                  let (n, k) = lengths in
                  let (far, within) = rules-end (unused_of form_number) σ (count - marked) start rest end others-read h in
                  let back : start ≡ end - rules_bits rest = omega arith in
                  rw (
                    whole,
                    le-leb marked (length (done ++ rest)) (omega arith),
                    lt-ltb marked (length (done ++ rest)) (omega arith),
                    drop_at done rest marked k,
                  ) (ap (λ (b : ℕ). Left b) back)

              pub standing-done : count ≤ marked → Done ≡ standing_in marked rest-here
              standing-done h =
                  let (n, k) = lengths in
                  rw (
                    whole,
                    le-leb marked (length (done ++ rest)) (omega arith),
                    le-ltb marked (length (done ++ rest)) (omega arith),
                  )

-- A file that was read, and one that was not.
module _ (bytes : List ℕ) (marked : ℕ) where
  pub file-unread : (code offset : ℕ) → read_bytes bytes ≡ fault code offset → Bad ≡ file_standing bytes marked
  unfolding file_standing
  file-unread code offset e = rw e

  pub file-read : (x : Reading RuleFile) (r : Standing) → read_bytes bytes ≡ x → r ≡ standing_in marked x →
      r ≡ file_standing bytes marked
  unfolding file_standing
  file-read x r e f = rw e f
