-- The cells for the variables, after each word.
--     cells-none                           before the first word
--     word-symbol, word-known, word-new    after a symbol, a variable seen before, a new one
use mathlib.Core.Path.{◌≡◌, sym, ap, ◌∙◌}
use mathlib.Core.List.{List, [], ◌∷◌, ◌++◌}
use mathlib.Core.Bool.{false, cond, false≢true}
use Prim.Native.Nat.{ℕ, ◌+◌, ◌<◌}
use native.Mathlib.Omega.{arith}
use lib.Dec.{eqb}
use lib.ListN.{length-append, length-set, get_or, set, replicate, length-replicate, get_or-replicate}
use lib.Seq.{get_or-set_same, get_or-set_other}
use borrow.Author.Tests.{eqb-true, eq-eqb}
use Rattle.multisets.specs.Multiset.{some}
use Rattle.multisets.proofs.Relations.{by_test}
use Rattle.terms.specs.Term.{variable_count}
use Rattle.terms.specs.Words.{first_variable}
use Rattle.terms.specs.FirstUse.{place_in}
use Rattle.terms.proofs.FirstUseLaws.{has_last, some-append, place-append, place-new}
use Rattle.terms.proofs.FirstUseLaws.{rename_word-symbol, rename_word-variable, see-symbol, see-known, see-new}
use Rattle.variables.specs.declared.Renumbering.{Renumbering}
use Rattle.variables.specs.Renumbering.{Numbered, WordNumbered}
use Rattle.std.specs.Prelude.{Option, Some, None}

pub cells-none : Numbered [] (record { cells = replicate variable_count None; unused = first_variable })
cells-none = record {
  room = length-replicate {A = Option ℕ} variable_count None;
  next = omega arith;
  cell = λ x h. get_or-replicate {A = Option ℕ} variable_count x None None h;
}

module _ (seen : List ℕ) (r : Renumbering) (n : Numbered seen r) where
  pub word-symbol : (word : ℕ) → word < first_variable → WordNumbered seen word word r
  word-symbol word h = rw (see-symbol seen word h) (sym (rename_word-symbol (place_in seen) word h), n)

  module _ (x : ℕ) (h : x < variable_count) where
    pub word-known : (word known : ℕ) → word ≡ first_variable + x → get_or r.cells x None ≡ Some known →
        WordNumbered seen word known r
    word-known word known w k =
        by_test (some (eqb x) seen)
        (λ e. let c : Some known ≡ Some (first_variable + place_in seen x) = sym k ∙ n.cell x h ∙ rw e in
        let d : known ≡ first_variable + place_in seen x = cc in
        rw (w, see-known seen x e) (d ∙ sym (rename_word-variable (place_in seen) x), n))
        λ e. let c : Some known ≡ None = sym k ∙ n.cell x h ∙ rw e in cc

    -- The cells of the other variables stay, and no other is seen.
    cell_other : (y : ℕ) → y < variable_count → eqb y x ≡ false → get_or (set r.cells x (Some r.unused)) y None
        ≡ cond (some (eqb y) (seen ++ (x ∷ []))) (Some (first_variable + place_in (seen ++ (x ∷ [])) y)) None
    cell_other y l e =
        get_or-set_other r.cells x y (Some r.unused) None (λ p. false≢true (sym e ∙ eq-eqb y x p)) ∙ n.cell y l
        ∙ rw (some-append (eqb y) seen (x ∷ []), e)
        (by_test (some (eqb y) seen) (λ p. rw (p, place-append seen (x ∷ []) y p)) λ p. rw p)

    cell-own : some (eqb x) seen ≡ false → get_or (set r.cells x (Some r.unused)) x None
        ≡ cond (some (eqb x) (seen ++ (x ∷ []))) (Some (first_variable + place_in (seen ++ (x ∷ [])) x)) None
    cell-own e =
        get_or-set_same r.cells x (Some r.unused) None (omega (arith, n.room)) ∙ ap Some n.next
        ∙ rw (has_last seen x, place-new seen x e)

    numbered_more : some (eqb x) seen ≡ false →
        Numbered (seen ++ (x ∷ [])) (record { cells = set r.cells x (Some r.unused); unused = r.unused + 1 })
    numbered_more e = record {
      room = length-set r.cells x (Some r.unused) ∙ n.room;
      next = omega (arith, n.next, length-append seen (x ∷ []));
      cell = λ y l. by_test (eqb y x) (λ p. rw (eqb-true y x p) (cell-own e)) (cell_other y l);
    }

    pub word-new : (word : ℕ) → word ≡ first_variable + x → get_or r.cells x None ≡ None →
        WordNumbered seen word r.unused (record { cells = set r.cells x (Some r.unused); unused = r.unused + 1 })
    word-new word w z =
        by_test (some (eqb x) seen)
        (λ e. let c : None ≡ Some (first_variable + place_in seen x) = sym z ∙ n.cell x h ∙ rw e in cc)
        λ e. rw (w, see-new seen x e) (
          rw (rename_word-variable (place_in (seen ++ (x ∷ []))) x, place-new seen x e) n.next,
          numbered_more e,
        )
