-- Every result of one step from an expression is, up to AC-equivalence, one of its reducts.
--     Leads, Beside         what is to be shown of a context, alone and beside a further argument of an AC symbol
--     element-leads         what has another root than f is an element of the flattening for f
--     leads-fill            every context
--     reducts-complete      every result of one step is among the reducts
use mathlib.Core.List.{List, [], ◌∷◌, ◌++◌, append-nil, Memᴰ}
use mathlib.Core.List.Memᴰ
use mathlib.Core.Path.{◌≡◌, ◌∙◌}
use mathlib.Core.Bool.{true}
use Prim.Native.Nat.{ℕ, suc, ◌+◌}
use native.Mathlib.Omega.{arith}
use lib.ListN.{length}
use lib.Dec.{eqb}
use borrow.Author.Tests.{eqb-true}
use Rattle.multisets.specs.Multiset.{multiset_equal}
use Rattle.terms.specs.Signature.{Signature, symbol_of, Admissible}
use Rattle.terms.specs.Term.{Term, Terms, row, arguments, flattening, flattenings, WellFormed, WellFormeds, Expression}
use Rattle.terms.specs.Term.Term.{var, app}
use Rattle.terms.specs.Term.Terms.{nil, cons}
use Rattle.terms.specs.Equivalence.{pair, Equivalent, Equivalents, is_equivalent}
use Rattle.terms.specs.Equivalence.Equivalent.{same, back, then, under, exchange, regroup}
use Rattle.terms.specs.Equivalence.Equivalents.{none, each}
use Rattle.terms.specs.Bunch.{join, bunch_of}
use Rattle.terms.specs.Bunch.Bunch.{full}
use Rattle.terms.specs.Rewriting.{System, WellFormedRules, AllDecreasing, Context, fill, ExpressionContext}
use Rattle.terms.specs.Rewriting.{substitute, Step}
use Rattle.terms.specs.Rewriting.Context.{hole, inside}
use Rattle.multisets.proofs.Relations.{by_test}
use Rattle.multisets.proofs.MultisetLaws.{Takes, multiset_equal-split, takes-member}
use Rattle.multisets.proofs.MultisetLaws.{takes-within}
use Rattle.multisets.proofs.FlatMapLaws.{member-flat_map}
use Rattle.terms.proofs.TermLaws.{flattenings-each, flattening-each, flattenings-formed, formed}
use Rattle.terms.proofs.EquivalenceLaws.{arguments-of-is_equivalent, symbol-of-is_equivalent}
use Rattle.terms.proofs.EquivalenceComplete.{Equivalent→is_equivalent}
use Rattle.terms.proofs.EquivalenceMeasures.{formed-resp-equivalent, expression-resp-equivalent}
use Rattle.terms.proofs.EquivalenceSound.{SameBunch, both_full, from-full, same-sym, same-trans, bunch-two}
use Rattle.terms.proofs.EquivalenceSound.{join-resp, multiset-sound}
use Rattle.terms.proofs.EquivalenceSound.{flattening-joined, is_equivalent→Equivalent}
use Rattle.terms.proofs.VariableLaws.{Grounds, expressions, not-ground}
use Rattle.simplifying.specs.Matching.{regroupings}
use Rattle.simplifying.specs.Reducts.{results, results_first, results_beside, reducts, reducts_in}
use Rattle.simplifying.proofs.GroupingLaws.{equivalents-of-equivalent, regroupings-complete}
use Rattle.simplifying.proofs.ResultLaws.{Among, results-complete}
use Rattle.simplifying.proofs.ElementReducts.{of-results, of-beside, of-arguments, of-first, of-later}
use Rattle.simplifying.proofs.ElementReducts.{reducts_in-length, elements-reducts}

module _ (R : System) where
  abbrev σ : Signature
  σ = R.signature

  -- ---- contexts

  -- Every expression that is AC-equivalent to a has a reduct that is AC-equivalent to b.
  abbrev Leads : Term → Term → Type 0
  Leads a b = (s : Term) → Expression σ s → Equivalent σ s a → Among σ (reducts R s) b

  in_row : (a b : Term) → Leads a b → (ps qs : List Term) (ts : Terms) → WellFormeds σ ts × Grounds ts →
      Equivalents σ ts (arguments (ps ++ (a ∷ qs))) →
      (us : Terms) × Memᴰ us (reducts_in R ts) × Equivalents σ us (arguments (ps ++ (b ∷ qs)))
  in_row a b h [] qs nil e x4 = elim x4 [ ]
  in_row a b h (p ∷ ps) qs nil e x5 = elim x5 [ ]
  in_row a b h [] qs (cons t ts) e (each d r) =
      let (u, i, q) = h t ((expressions σ).head t ts e) d in (cons u ts, of-first R t ts u i, each q r)
  in_row a b h (p ∷ ps) qs (cons t ts) e (each d r) =
      let (us, i, q) = in_row a b h ps qs ts ((expressions σ).tail t ts e) r in
      (cons t us, of-later R t ts us i, each d q)

  -- The arguments of an AC symbol around an open place are one argument beside it.
  beside-one : (f : ℕ) → (symbol_of σ f).ac ≡ true → (ps qs : List Term) → length ps + suc (length qs) ≡ 2 →
      (v : Term) × ((x : Term) → Equivalent σ (app f (arguments (ps ++ (x ∷ qs)))) (app f (pair x v)))
  beside-one f ac [] [] n = absurd (omega arith)
  beside-one f ac [] (v ∷ []) n = (v, λ x. same)
  beside-one f ac [] (v ∷ (u ∷ qs)) n = absurd (omega arith)
  beside-one f ac (v ∷ []) [] n = (v, λ x. exchange ac)
  beside-one f ac (v ∷ []) (u ∷ qs) n = absurd (omega arith)
  beside-one f ac (v ∷ (u ∷ ps)) qs n = absurd (omega arith)

  module _ (A : Admissible σ) where
    pub rest-joined : (f : ℕ) → (symbol_of σ f).ac ≡ true → {a : Term} (v : Term) (ts : Terms) (us : List Term) →
        Takes a (flattenings f ts) us → WellFormed σ v → WellFormeds σ ts →
        multiset_equal (is_equivalent σ) (flattening f v) us ≡ true → SameBunch σ (bunch_of f us) (full v)
    rest-joined f ac v ts us x w z k =
        same-trans σ (same-sym σ (multiset-sound σ f ac (is_equivalent σ) (flattening f v) us (λ s t m n.
        is_equivalent→Equivalent σ A.ac_binary s t (flattening-each (formed σ) s v f w m)
        (flattenings-formed σ ts f z t (takes-within x n))) k)) (flattening-joined σ f ac A.ac_binary v w)

    beside-rest : (f : ℕ) (vs : Terms) (us : List Term) {b c v : Term} →
        SameBunch σ (bunch_of f (row vs)) (join f (full c) (bunch_of f us)) → length (row vs) ≡ 2 →
        SameBunch σ (bunch_of f us) (full v) → Equivalent σ c b → Equivalent σ (app f vs) (app f (pair b v))
    beside-rest f vs us p n r q =
        from-full σ (same-trans σ (rw (bunch-two f vs n) at p) (join-resp σ f (both_full q) r))

    -- An element's reduct, put back.
    element-put : (f : ℕ) → (symbol_of σ f).ac ≡ true → {b c d v : Term} (ts : Terms) (us : List Term) →
        Expression σ (app f ts) → WellFormed σ v → Takes c (flattenings f ts) us →
        multiset_equal (is_equivalent σ) (flattening f v) us ≡ true → Memᴰ d (reducts R c) → Equivalent σ d b →
        Among σ (reducts R (app f ts)) (app f (pair b v))
    element-put f ac {b} {c} {d} {v} ts us e w x k i q =
        let (vs, j, p) = elements-reducts R A f ac c d i ts us e.0.2 x in
        let n : length (row vs) ≡ 2 = reducts_in-length R ts vs j ∙ e.0.1 ∙ A.ac_binary f ac in
        (app f vs, of-arguments R f ts vs j, beside-rest f vs us p n (rest-joined f ac v ts us x w e.0.2 k) q)

    -- What has another root than f is an element of the flattening for f.
    element-leads : (f : ℕ) → (symbol_of σ f).ac ≡ true → (a b v : Term) (ts : Terms) → flattening f a ≡ a ∷ [] →
        Leads a b → Expression σ (app f ts) → Equivalent σ (app f ts) (app f (pair a v)) →
        Among σ (reducts R (app f ts)) (app f (pair b v))
    element-leads f ac a b v ts alone h e d =
        go (multiset_equal-split (is_equivalent σ) a (flattening f v) (flattenings f ts) (rw (ac, alone, append-nil) at
        (arguments-of-is_equivalent σ f f (pair a v) ts (Equivalent→is_equivalent σ (back d)))))
      where
        w : WellFormed σ (app f (pair a v))
        w = (formed-resp-equivalent σ d).0 e.0

        go : (c : Term) × (us : List Term) × (is_equivalent σ a c ≡ true) × Takes c (flattenings f ts) us ×
            (multiset_equal (is_equivalent σ) (flattening f v) us ≡ true) →
            Among σ (reducts R (app f ts)) (app f (pair b v))
        go (c, us, l, x, k) =
            let g = flattenings-each (expressions σ) c ts f ((expressions σ).inner f ts e) (takes-member x) in
            let (u, i, q) = h c g (back (is_equivalent→Equivalent σ A.ac_binary a c w.2.0 g.0 l)) in
            element-put f ac ts us e w.2.1.0 x k i q

    module _ (a b : Term) (whole : (s : Term) → Expression σ s → Equivalent σ s a → Among σ (results R s) b) where
      -- Beside a further argument of an AC symbol.
      abbrev Beside : Context → Type 0
      Beside c = (f : ℕ) → (symbol_of σ f).ac ≡ true → (v : Term) (ts : Terms) → Expression σ (app f ts) →
          Equivalent σ (app f ts) (app f (pair (fill c a) v)) →
          Among σ (reducts R (app f ts)) (app f (pair (fill c b) v))

      leads-hole : Leads a b
      leads-hole (var x) e d = absurd (not-ground x e.1)
      leads-hole (app f ts) e d = let (v, i, q) = whole (app f ts) e d in (v, of-results R f ts v i, q)

      beside-hole : Beside hole
      unfolding results_beside
      beside-hole f ac v ts e d =
          let (us, i, q) = regroupings-complete σ f ac A.ac_binary ts e.0 a v d in
          go us i q (expression-resp-equivalent σ (then d (back (under q))) e)
        where
          go : (us : Terms) → Memᴰ us (regroupings f ts) → Equivalents σ us (pair a v) →
              Expression σ (app f us) → Among σ (reducts R (app f ts)) (app f (pair b v))
          go nil i x3 h = elim x3 [ ]
          go (cons s us) i (each d r) h =
              let (t, j, q) = whole s ((expressions σ).head s us ((expressions σ).inner f (cons s us) h)) d in (
                app f (cons t us),
                of-beside R f ts (cons t us)
                    (rw ac (member-flat_map (results_first R) i (Memᴰ.map (λ (u : Term). cons u us) j))),
                under (each q r),
              )

      module _ (g : ℕ) (ps qs : List Term) (c : Context) (n : length ps + suc (length qs) ≡ (symbol_of σ g).arity) where
        leads-inside : Leads (fill c a) (fill c b) → Beside c →
            Leads (fill (inside g ps c qs) a) (fill (inside g ps c qs) b)
        leads-inside h k (var x) e d = absurd (not-ground x e.1)
        leads-inside h k (app f ts) e d =
            let us = arguments (ps ++ (fill c a ∷ qs)) in
            let p : f ≡ g = symbol-of-is_equivalent σ f g ts us (Equivalent→is_equivalent σ d) in
            rw p (go (rw p at e) (rw p at d))
          where
            go : Expression σ (app g ts) → Equivalent σ (app g ts) (fill (inside g ps c qs) a) →
                Among σ (reducts R (app g ts)) (fill (inside g ps c qs) b)
            go e d =
                by_test (symbol_of σ g).ac
                (λ ac. let (v, around) = beside-one g ac ps qs (n ∙ A.ac_binary g ac) in
                let (u, i, q) = k g ac v ts e (then d (around (fill c a))) in
                (u, i, then q (back (around (fill c b)))))
                λ ac. let r = equivalents-of-equivalent σ A.ac_binary g ts (arguments (ps ++ (fill c a ∷ qs))) ac
                e.0 d in
                let (us, i, q) = in_row (fill c a) (fill c b) h ps qs ts ((expressions σ).inner g ts e) r in
                (app g us, of-arguments R g ts us i, under q)

        -- The same symbol around: its further arguments are one.
        beside-own : Beside c → (symbol_of σ g).ac ≡ true → (v : Term) (ts : Terms) → Expression σ (app g ts) →
            Equivalent σ (app g ts) (app g (pair (fill (inside g ps c qs) a) v)) →
            Among σ (reducts R (app g ts)) (app g (pair (fill (inside g ps c qs) b) v))
        beside-own k ac v ts e d =
            let (w, around) = beside-one g ac ps qs (n ∙ A.ac_binary g ac) in
            let both : (x : Term) →
            Equivalent σ (app g (pair (fill (inside g ps c qs) x) v)) (app g (pair (fill c x) (app g (pair w v)))) =
            λ x. then (under (each (around (fill c x)) (each same none))) (regroup ac) in
            let (u, i, q) = k g ac (app g (pair w v)) ts e (then d (both a)) in
            (u, i, then q (back (both b)))

        beside-inside : Leads (fill (inside g ps c qs) a) (fill (inside g ps c qs) b) → Beside c →
            Beside (inside g ps c qs)
        beside-inside h k f ac v ts e d =
            by_test (eqb f g)
            (λ q. let p = eqb-true f g q in rw p (beside-own k (rw p at ac) v ts (rw p at e) (rw p at d)))
            λ q. element-leads f ac (fill (inside g ps c qs) a) (fill (inside g ps c qs) b) v ts (rw q) h e d

      leads-fill : (c : Context) → ExpressionContext σ c → Leads (fill c a) (fill c b) × Beside c
      leads-fill hole h = (leads-hole, beside-hole)
      leads-fill (inside g ps c qs) (s, n, hs, h, ht) =
          let (l, m) = leads-fill c h in
          let k = leads-inside g ps qs c n l m in (k, beside-inside g ps qs c n k m)

    pub reducts-complete : WellFormedRules R → AllDecreasing R → (s t : Term) → Expression σ s → Step R s t →
        Among σ (reducts R s) t
    reducts-complete W D s t e p =
        let l = substitute p.substitution p.rule.left in
        let r = substitute p.substitution p.rule.right in
        let whole : (s : Term) → Expression σ s → Equivalent σ s l → Among σ (results R s) r =
        λ s e d. results-complete R A W D s r e (record {
          rule = p.rule;
          is_rule = p.is_rule;
          substitution = p.substitution;
          images = p.images;
          before = d;
          after = same;
        }) in
        let (u, i, q) = (leads-fill l r whole p.context p.around).0 s e p.before in
        (u, i, then q (back p.after))
