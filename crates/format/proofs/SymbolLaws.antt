-- The signature of a readable file is admissible, and its values are within their widths.
--     symbols-at               each symbol passes the tests after those before it
--     coefficients-of-symbols  what reading promises of a symbol's coefficients
--     admissible-of-symbols    a signature whose symbols pass is admissible
--     fits-at                  a symbol's values are within their widths
--     symbols-of-admissible    the symbols of an admissible signature pass
--     ranked-of-admissible     and none is outranked
--     weighs-at, symbols-weigh a symbol weighs enough; symbols that pass in another form
--     fits-of                  symbols whose values are within their widths
use mathlib.Core.Path.{◌≡◌, refl, sym, ap, ◌∙◌}
use mathlib.Core.List.Memᴰ
use mathlib.Core.List.{List, [], ◌∷◌, ◌++◌, flat_map, append-nil, append_assoc}
use mathlib.Core.Bool.{Bool, true, false, false≢true, cond, ◌||◌, not}
use Prim.Native.Nat.{ℕ, suc, zero, ◌≤◌, ◌<◌}
use native.Mathlib.Omega.{arith}
use lib.ListN.{length, get_or, take, get_or-eq_default}
use lib.Seq.{get_or-take, length-take-le}
use lib.Dec.{eqb, lit<}
use borrow.Author.Tests.{eqb-true, leb-true, eq-eqb, le-leb, not-true}
use Rattle.multisets.proofs.Relations.{by_order, by_test, eqb-self}
use Rattle.terms.specs.Signature.{Symbol, Signature, symbol_of, coefficients_of, least_weight, Ones}
use Rattle.terms.specs.Signature.{Admissible}
use Rattle.terms.proofs.MeasureLaws.{replicate-ones}
use Rattle.format.specs.Layout.{form_number}
use Rattle.format.specs.Forms.{is_taken, has_coefficients, least_weight_in}
use Rattle.format.specs.Symbols.{held_by, first_outranked}
use Rattle.format.specs.Packing.{Item, symbol_items}
use Rattle.format.proofs.SpellingLaws.{AllFit, all-fit-append, all-fit-split}
use Rattle.format.specs.Statements.{Plain}
use Rattle.format.proofs.FormLaws.{taken-least}
use Rattle.format.proofs.CoefficientLaws.{Coefficients, admitted-ones, admitted-positive, admitted_of}
use Rattle.format.proofs.CoefficientLaws.{coefficients-fit}
use Rattle.format.proofs.FormatLaws.{SymbolOk, SymbolsOk}
use Rattle.format.proofs.FormatLaws.SymbolsOk.{no_symbol, symbol}
use Rattle.format.proofs.RankLaws.{absent, outranks-false, outranks-none, ranked-of, of-ranked}

symbols-at : {form w0 : ℕ} {earlier ss : List Symbol} → SymbolsOk form w0 earlier ss → (f : ℕ) → f < length ss →
    SymbolOk form w0 (earlier ++ take f ss) (get_or ss f absent)
symbols-at no_symbol f h = absurd (omega arith)
symbols-at (symbol {earlier} ok oks) zero h = rw (append-nil earlier) ok
symbols-at (symbol {earlier} {s} {ss} ok oks) (suc f) h =
    rw (append_assoc earlier (s ∷ []) (take f ss)) at (symbols-at oks f (omega arith))

symbols-of : (form w0 : ℕ) (earlier ss : List Symbol) →
    ((f : ℕ) → f < length ss → SymbolOk form w0 (earlier ++ take f ss) (get_or ss f absent)) → SymbolsOk form w0 earlier
    ss
symbols-of form w0 earlier [] h = no_symbol
symbols-of form w0 earlier (s ∷ ss) h =
    symbol (rw (append-nil earlier) at (h 0 (omega arith)))
    (symbols-of form w0 (earlier ++ (s ∷ [])) ss λ f l.
    rw (append_assoc earlier (s ∷ []) (take f ss)) (h (suc f) (omega arith)))

held_at : (ss : List Symbol) (g : ℕ) → g < length ss → held_by ss (get_or ss g absent).precedence ≡ true
held_at [] g h = absurd (omega arith)
held_at (s ∷ ss) zero h = rw eqb-self
held_at (s ∷ ss) (suc g) h =
    by_test (eqb (get_or ss g absent).precedence s.precedence) (λ e. rw e)
    λ e. rw e (held_at ss g (omega arith))

held_by-rank : (ss : List Symbol) (rank : ℕ) → held_by ss rank ≡ true →
    (g : ℕ) × (g < length ss) × (rank ≡ (get_or ss g absent).precedence)
held_by-rank [] rank e = absurd (false≢true e)
held_by-rank (s ∷ ss) rank e =
    by_test (eqb rank s.precedence) (λ t. (0, omega arith, eqb-true rank s.precedence t))
    λ t. let (g, l, h) = held_by-rank ss rank (rw t at e) in (suc g, omega arith, h)

pub weighs-at : {form w0 : ℕ} {ss : List Symbol} → SymbolsOk form w0 [] ss → (f : ℕ) → f < length ss →
    least_weight_in form w0 (get_or ss f absent).arity ≤ (get_or ss f absent).weight
weighs-at oks f l = leb-true _ _ (symbols-at oks f l).weighs

-- The same symbols in a form where they weigh enough and that has coefficients too, or has none either.
pub symbols-weigh : (form form' w0 : ℕ) (ss : List Symbol) → has_coefficients form' ≡ has_coefficients form →
    SymbolsOk form w0 [] ss →
    ((f : ℕ) → f < length ss → least_weight_in form' w0 (get_or ss f absent).arity ≤ (get_or ss f absent).weight) →
    SymbolsOk form' w0 [] ss
symbols-weigh form form' w0 ss same oks h =
    symbols-of form' w0 [] ss λ f l.
    let ok = symbols-at oks f l in
    let c = ok.coefficients in
    record {
      ac_binary = ok.ac_binary;
      weighs = le-leb _ _ (h f l);
      fresh = ok.fresh;
      coefficients = record {
        full = c.full;
        admitted = c.admitted;
        plain = λ e. c.plain (sym same ∙ e);
      };
    }

-- ---- an admissible signature

pub ones-of-plain : (σ : Signature) → Plain σ → Ones σ
ones-of-plain σ p f = rw (p f) (replicate-ones (symbol_of σ f).arity)

least-in : (form w0 arity : ℕ) → least_weight w0 arity ≤ least_weight_in form w0 arity
least-in form w0 zero = omega arith
least-in form w0 (suc n) = omega arith

module _ (form : ℕ) (σ : Signature) (oks : SymbolsOk form σ.w0 [] σ.symbols)
    (ranked : eqb (first_outranked σ.symbols) (length σ.symbols) ≡ true) where
  later-differs : (f g : ℕ) → g < f → f < length σ.symbols →
      (symbol_of σ f).precedence ≡ (symbol_of σ g).precedence → ⊥
  later-differs f g h l e =
      let earlier = take f σ.symbols in
      let fresh = not-true (held_by earlier (symbol_of σ f).precedence) (symbols-at oks f l).fresh in
      let same : get_or earlier g absent ≡ symbol_of σ g = get_or-take f σ.symbols g absent h in
      let held : held_by earlier (get_or earlier g absent).precedence ≡ true =
      held_at earlier g (omega (arith, length-take-le f σ.symbols (omega arith))) in
      false≢true (sym fresh ∙ ap (held_by earlier) (e ∙ ap (λ (s : Symbol). s.precedence) (sym same)) ∙ held)

  binary-at : (f : ℕ) → (symbol_of σ f).ac ≡ true → (symbol_of σ f).arity ≡ 2
  binary-at f e =
      by_order f (length σ.symbols)
      (λ h. eqb-true (symbol_of σ f).arity 2 (rw e at (symbols-at oks f h).ac_binary))
      λ h. absurd (false≢true (rw (get_or-eq_default σ.symbols absent h) at e))

  pub coefficients-of-symbols : (f : ℕ) →
      Coefficients form (symbol_of σ f).ac (symbol_of σ f).arity (coefficients_of σ f)
  coefficients-of-symbols f =
      by_order f (length σ.symbols) (λ h. (symbols-at oks f h).coefficients)
      λ h. rw (get_or-eq_default σ.symbols absent h) (record { full = refl; admitted = tt; plain = λ e. refl })

  pub admissible-of-symbols : 0 < σ.w0 → Admissible σ
  admissible-of-symbols positive =
      record {
        variable_weighs = positive;
        ac_binary = binary-at;
        weighs_enough = λ f h. omega (
          arith,
          weighs-at oks f h,
          least-in form σ.w0 (symbol_of σ f).arity,
        );
        precedences_differ = λ f g hf hg e.
            by_order f g (λ h. absurd (later-differs g f h hg (sym e)))
            λ h. by_order g f (λ k. absurd (later-differs f g k hf e)) λ k. omega arith;
        zero_weight_highest = λ f g hf hg z.
            outranks-false σ.symbols (symbol_of σ f).precedence
            (ranked-of σ.symbols σ.symbols (eqb-true _ _ ranked) f hf z.unary z.weightless) g hg;
        ac_ones = λ f e. admitted-ones _ (rw e at (coefficients-of-symbols f).admitted);
        coefficients_positive = λ f. admitted-positive _ _ (coefficients-of-symbols f).admitted;
      }

least-now : (w0 arity weight : ℕ) → least_weight w0 arity ≤ weight → least_weight_in form_number w0 arity ≤ weight
least-now w0 zero weight h = h
least-now w0 (suc zero) weight h = h
least-now w0 (suc (suc n)) weight h = h

binary_test : (ac : Bool) (arity : ℕ) → (ac ≡ true → arity ≡ 2) → (eqb (cond ac 1 0) 0 || eqb arity 2) ≡ true
binary_test false arity h = refl
binary_test true arity h = rw (h refl)

module _ (σ : Signature) (A : Admissible σ) where
  fresh_at : (f : ℕ) → f < length σ.symbols →
      not (held_by (take f σ.symbols) (symbol_of σ f).precedence) ≡ true
  fresh_at f l =
      let earlier = take f σ.symbols in
      by_test (held_by earlier (symbol_of σ f).precedence)
      (λ e.
      let (g, k, h) = held_by-rank earlier (symbol_of σ f).precedence e in
      let n : g < f = omega (arith, length-take-le f σ.symbols (omega arith)) in
      let same = ap (λ (s : Symbol). s.precedence) (get_or-take f σ.symbols g absent n) in
      absurd (omega (arith, A.precedences_differ f g l (omega arith) (h ∙ same))))
      λ e. rw e

  -- In a form that is read now.
  pub symbols-of-admissible : (form : ℕ) → is_taken form_number form ≡ true →
      ((f : ℕ) → length (coefficients_of σ f) ≡ (symbol_of σ f).arity) → (has_coefficients form ≡ false → Plain σ) →
      SymbolsOk form σ.w0 [] σ.symbols
  symbols-of-admissible form t full plain =
      let enough : (f : ℕ) → f < length σ.symbols →
      least_weight_in form σ.w0 (symbol_of σ f).arity ≤ (symbol_of σ f).weight =
      λ f l. rw (taken-least form_number form t σ.w0 (symbol_of σ f).arity)
      (least-now σ.w0 (symbol_of σ f).arity (symbol_of σ f).weight (A.weighs_enough f l)) in
      symbols-of form σ.w0 [] σ.symbols λ f l. record {
        ac_binary = binary_test _ _ (A.ac_binary f);
        weighs = le-leb _ _ (enough f l);
        fresh = fresh_at f l;
        coefficients = record {
          full = full f;
          admitted = admitted_of _ _ (A.ac_ones f) (A.coefficients_positive f);
          plain = λ e. plain e f;
        };
      }

  pub ranked-of-admissible : eqb (first_outranked σ.symbols) (length σ.symbols) ≡ true
  ranked-of-admissible =
      eq-eqb _ _ (of-ranked σ.symbols σ.symbols λ f l u z.
      outranks-none σ.symbols (symbol_of σ f).precedence λ g k.
      A.zero_weight_highest f g l k (record { unary = u; weightless = z }))

-- ---- the widths

module _ (form : ℕ) where
  abbrev items_of : List Symbol → List Item
  items_of = flat_map (symbol_items form)

  pub fits-at : (ss : List Symbol) → AllFit (items_of ss) → (f : ℕ) → AllFit (symbol_items form (get_or ss f absent))
  unfolding flat_map
  fits-at [] h f =
      let none = coefficients-fit form [] λ k m. absurd (Memᴰ.not-nil m) in
      (lit< tt, (lit< tt, (lit< tt, (lit< tt, none))))
  fits-at (s ∷ ss) h zero = (all-fit-split (symbol_items form s) (items_of ss) h).0
  fits-at (s ∷ ss) h (suc f) = fits-at ss (all-fit-split (symbol_items form s) (items_of ss) h).1 f

  pub fits-of : (ss : List Symbol) → ((f : ℕ) → AllFit (symbol_items form (get_or ss f absent))) → AllFit (items_of ss)
  unfolding flat_map
  fits-of [] h = tt
  fits-of (s ∷ ss) h = all-fit-append (symbol_items form s) (items_of ss) (h 0) (fits-of ss λ f. h (suc f))
