-- A term with an instance in place of one of its parts.
--     result-length, result-size     how many words it has
--     put-parts                      the words before, the instance and the words after, put one after another
--     result_words-are                   they are those of the term with the substituted pattern in the open place
use mathlib.Core.List.{List, ◌++◌}
use mathlib.Core.Path.{◌≡◌, sym, ap, ◌∙◌}
use Prim.Native.Nat.{ℕ, ◌+◌, ◌-◌, ◌≤◌, ◌<◌}
use native.Mathlib.Omega.{arith}
use lib.ListN.{length, take, drop, length-append, length-drop}
use lib.Seq.{length-take-le, take_all}
use Rattle.terms.specs.Signature.{Signature}
use Rattle.terms.specs.Term.{Term, size}
use Rattle.terms.specs.Words.{words}
use Rattle.terms.specs.Rewriting.{fill, substitute}
use Rattle.simplifying.specs.Filling.{Shaped}
use Rattle.simplifying.proofs.HoleLaws.{hole_offset, Opened, filled_at, words-substitute}
use Rattle.subterms.specs.Parts.{part_at}
use Rattle.equivalence.specs.Keys.{Prepared, size_in}
use Rattle.equivalence.proofs.StepLaws.{prepared-size, part_small}
use Rattle.pieces.specs.Buffer.{Put}
use Rattle.pieces.specs.Pieces.{image_at, instance_words}
use Rattle.pieces.specs.Subject.{Subject}
use Rattle.pieces.specs.Results.{result_words, IsResult}
use Rattle.pieces.proofs.CopyLaws.{put_then}
use Rattle.pieces.proofs.NodeLaws.{opened}

module _ {σ : Signature} {ws keys : List ℕ} (P : Prepared σ ws keys) {offsets masks ps : List ℕ} {i : ℕ}
    (R : IsResult σ ws offsets masks ps i) {w : ℕ} (d : w ≡ size_in keys i) where
  sized : w ≡ size (part_at σ ws i)
  sized = d ∙ prepared-size P i R.inside

  pub part-fits : i + w ≤ length ws
  part-fits = omega (arith, sized, part_small σ ws P.complete i R.inside)

  abbrev instance : List ℕ
  instance = instance_words σ ws offsets masks ps

  abbrev result : List ℕ
  result = result_words σ ws offsets masks ps i

  is-result : result ≡ take i ws ++ (instance ++ drop (i + w) ws)
  is-result = rw sized

  pub result-length : length result ≡ i + length instance + (length ws - (i + w))
  result-length =
      ap length is-result ∙ length-append (take i ws) (instance ++ drop (i + w) ws)
      ∙ omega (
        arith,
        length-take-le i ws (omega (arith, R.inside)),
        length-append instance (drop (i + w) ws),
        length-drop (i + w) ws,
      )

  pub result-size : (k : ℕ) → k ≡ length instance → k + (length ws - w) ≡ length result
  result-size k e = omega (arith, result-length, part-fits)

  rest : take (length ws - (i + w)) (drop (i + w) ws) ≡ drop (i + w) ws
  rest = take_all (length ws - (i + w)) (drop (i + w) ws) (omega (arith, length-drop (i + w) ws))

  -- So many words are put before the part, and then those of the instance.
  module _ (at : ℕ) {n m : ℕ} (p : n ≡ at + length (take i ws)) (q : m ≡ n + length instance) where
    pub rest-room : at + length result ≤ 48 → m + length (take (length ws - (i + w)) (drop (i + w) ws)) ≤ 48
    rest-room h =
        rw rest (omega (
          arith,
          result-length,
          length-take-le i ws (omega (arith, R.inside)),
          length-drop (i + w) ws,
        ))

  pub put-parts : {l before mid out : List ℕ} {at n m r : ℕ} → Put l at (take i ws) n before →
      Put before n instance m mid → Put mid m (take (length ws - (i + w)) (drop (i + w) ws)) r out →
      Put l at result r out
  put-parts p q s = rw is-result (put_then p (put_then q (rw rest at s)))

-- The result is the term with the substituted pattern in the open place.
pub result_words-are : {σ : Signature} {ws : List ℕ} (S : Subject σ ws) (offsets masks : List ℕ) (i : ℕ) (h : i < length ws)
    (o : Opened S.term i) (r : Term) → Shaped σ r →
    result_words σ ws offsets masks (words r) i ≡ words (fill o.context (substitute (image_at σ ws offsets masks) r))
result_words-are {σ} {ws} S offsets masks i h o r s =
    let c = o.context in
    let t = substitute (image_at σ ws offsets masks) r in
    let (x, a, e) = opened S i h o in
    let k : words (fill c o.part) ≡ ws = sym (S.spelled ∙ ap words o.whole) in
    let d : hole_offset c ≡ i = o.offset in
    let m : size o.part ≡ size (part_at σ ws i) = ap size (sym e) in
    ap (λ (vs : List ℕ). take i ws ++ (vs ++ drop (i + size (part_at σ ws i)) ws))
    (sym (words-substitute σ S.few (image_at σ ws offsets masks) r s))
    ∙ sym (filled_at c o.part t ∙ rw (k, d, m))
