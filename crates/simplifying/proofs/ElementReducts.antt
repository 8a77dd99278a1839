-- Where reducts are found, and a reduct of an element of a flattening, put back.
--     of-results, of-beside, of-arguments    at the root, beside a rest, in an argument
--     of-first, of-later                     in the first argument, in a later one
--     elements-reducts                       in an element of a flattening
use mathlib.Core.List.{List, [], ◌∷◌, ◌++◌, map, Memᴰ}
use mathlib.Core.List.Memᴰ
use mathlib.Core.Logic.{⊎_elim}
use mathlib.Core.Path.{◌≡◌, sym, ap, ◌∙◌, subst}
use mathlib.Core.Bool.{true}
use Prim.Native.Nat.{ℕ, suc}
use lib.ListN.{length}
use Rattle.terms.specs.Signature.{Signature, symbol_of, Admissible}
use Rattle.terms.specs.Term.{Term, Terms, row, arguments, flattenings, WellFormeds}
use Rattle.terms.specs.Term.Term.{app}
use Rattle.terms.specs.Term.Terms.{nil, cons}
use Rattle.terms.specs.Bunch.{join, bunch_of}
use Rattle.terms.specs.Bunch.Bunch.{full}
use Rattle.terms.specs.Rewriting.{System, Context, fill}
use Rattle.terms.specs.Rewriting.Context.{hole, inside}
use Rattle.multisets.proofs.MultisetLaws.{Takes}
use Rattle.terms.proofs.EquivalenceSound.{SameBunch}
use Rattle.terms.proofs.TermLaws.{row-arguments, arguments-row}
use Rattle.simplifying.specs.Reducts.{results, results_beside, reducts, reducts_in}
use Rattle.simplifying.proofs.ElementPlaces.{element-place-in}

module _ (R : System) where
  abbrev σ : Signature
  σ = R.signature

  -- ---- where reducts are found

  pub of-results : (f : ℕ) (ts : Terms) (u : Term) → Memᴰ u (results R (app f ts)) →
      Memᴰ u (reducts R (app f ts))
  unfolding reducts
  of-results f ts u m = Memᴰ.append_left (map (app f) (results_beside R f ts ++ reducts_in R ts)) m

  pub of-beside : (f : ℕ) (ts us : Terms) → Memᴰ us (results_beside R f ts) →
      Memᴰ (app f us) (reducts R (app f ts))
  unfolding reducts
  of-beside f ts us m =
      Memᴰ.append_right (results R (app f ts)) (Memᴰ.map (app f) (Memᴰ.append_left (reducts_in R ts) m))

  pub of-arguments : (f : ℕ) (ts us : Terms) → Memᴰ us (reducts_in R ts) →
      Memᴰ (app f us) (reducts R (app f ts))
  unfolding reducts
  of-arguments f ts us m =
      Memᴰ.append_right (results R (app f ts)) (Memᴰ.map (app f) (Memᴰ.append_right (results_beside R f ts) m))

  pub of-first : (t : Term) (ts : Terms) (u : Term) → Memᴰ u (reducts R t) →
      Memᴰ (cons u ts) (reducts_in R (cons t ts))
  unfolding reducts
  of-first t ts u m =
      Memᴰ.append_left (map (cons t) (reducts_in R ts)) (Memᴰ.map (λ (u : Term). cons u ts) m)

  pub of-later : (t : Term) (ts us : Terms) → Memᴰ us (reducts_in R ts) →
      Memᴰ (cons t us) (reducts_in R (cons t ts))
  unfolding reducts
  of-later t ts us m =
      Memᴰ.append_right (map (λ (u : Term). cons u ts) (reducts R t)) (Memᴰ.map (cons t) m)

  -- ---- an element of a flattening

  pub reducts_in-length : (ts us : Terms) → Memᴰ us (reducts_in R ts) → length (row us) ≡ length (row ts)
  unfolding reducts
  reducts_in-length nil us m = absurd (Memᴰ.not-nil m)
  reducts_in-length (cons t ts) us m =
      ⊎_elim (λ i. let (u, j, q) = Memᴰ.of_map (λ (u : Term). cons u ts) (reducts R t) i in rw (← q))
      (λ i. let (vs, j, q) = Memᴰ.of_map (cons t) (reducts_in R ts) i in rw (← q) (ap suc (reducts_in-length ts vs j)))
      (Memᴰ.append_cases (map (λ (u : Term). cons u ts) (reducts R t)) m)

  among-reducts : (ss ts : List Term) (s t : Term) → Memᴰ t (reducts R s) →
      Memᴰ (arguments (ss ++ (t ∷ ts))) (reducts_in R (arguments (ss ++ (s ∷ ts))))
  among-reducts [] ts s t m = of-first s (arguments ts) t m
  among-reducts (u ∷ ss) ts s t m =
      of-later u (arguments (ss ++ (s ∷ ts))) (arguments (ss ++ (t ∷ ts))) (among-reducts ss ts s t m)

  fill-reducts : (c : Context) (s t : Term) → Memᴰ t (reducts R s) → Memᴰ (fill c t) (reducts R (fill c s))
  fill-reducts hole s t m = m
  fill-reducts (inside f ss c ts) s t m =
      of-arguments f (arguments (ss ++ (fill c s ∷ ts))) (arguments (ss ++ (fill c t ∷ ts)))
      (among-reducts ss ts (fill c s) (fill c t) (fill-reducts c s t m))

  pub elements-reducts : Admissible σ → (f : ℕ) → (symbol_of σ f).ac ≡ true → (a b : Term) → Memᴰ b (reducts R a) →
      (ts : Terms) (m : List Term) → WellFormeds σ ts → Takes a (flattenings f ts) m →
      (us : Terms) × Memᴰ us (reducts_in R ts) × SameBunch σ (bunch_of f (row us)) (join f (full b) (bunch_of f m))
  elements-reducts A f ac a b i ts m w k =
      let p = element-place-in σ A f ac ts a m w k in
      let us = p.before ++ (fill p.context b ∷ p.after) in
      let e : ts ≡ arguments (p.before ++ (fill p.context a ∷ p.after)) =
      sym (arguments-row ts) ∙ ap arguments p.whole in (
        arguments us,
        subst (λ (vs : Terms). Memᴰ (arguments us) (reducts_in R vs)) (sym e)
            (among-reducts p.before p.after (fill p.context a) (fill p.context b)
            (fill-reducts p.context a b i)),
        rw row-arguments (p.others b),
      )
