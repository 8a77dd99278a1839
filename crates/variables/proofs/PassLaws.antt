-- The words of a rule while they are renumbered one by one.
--     Passing, RulePassing     how the words stand when those before an index are renumbered
--     passing-none, passing-more, passing-done
use mathlib.Core.Path.{◌≡◌, sym, ◌∙◌}
use mathlib.Core.List.{List, [], ◌∷◌, ◌++◌, append_assoc}
use Prim.Native.Nat.{ℕ, ◌+◌, ◌≤◌, ◌<◌}
use native.Mathlib.Omega.{arith}
use lib.ListN.{length, length-append, length-map, get_or, set, take, drop, replicate}
use lib.Seq.{sets, sets-eq, set_at, get_or_at, length-take-le}
use Rattle.terms.specs.Term.{variable_count}
use Rattle.terms.specs.Words.{first_variable}
use Rattle.terms.specs.FirstUse.{see, renumbered}
use Rattle.terms.proofs.FirstUseLaws.{renumber_from, renumber-at-once}
use Rattle.variables.specs.declared.Renumbering.{Renumbering}
use Rattle.std.specs.Prelude.{None}
use Rattle.variables.specs.Renumbering.{AllNodes, Numbered, WordNumbered}
use Rattle.variables.proofs.CellLaws.{cells-none}

-- The words before the index are those aimed at; the node words from there to the end are yet to be renumbered.
pub record Passing (aim words : List ℕ) (i end : ℕ) (r : Renumbering) : Type 0 where
  pub front : List ℕ
  pub rest : List ℕ
  pub back : List ℕ
  pub seen : List ℕ
  pub stand : words ≡ front ++ (rest ++ back)
  pub passed : length front ≡ i
  pub left : i + length rest ≡ end
  pub nodes : AllNodes rest
  pub aimed : aim ≡ front ++ (renumber_from seen rest ++ back)
  pub numbered : Numbered seen r

-- So in any words where a rule's node words are stored, aimed at those where they are renumbered.
abbrev pub RulePassing : ℕ → ℕ → List ℕ → List ℕ → ℕ → Renumbering → Type 0
RulePassing start end before words i r =
    (old nodes : List ℕ) → before ≡ sets old start nodes → start + length nodes ≡ end → end ≤ length old →
    AllNodes nodes → Passing (sets old start (renumbered nodes)) words i end r

pub passing-none : (words nodes : List ℕ) (start end : ℕ) → start + length nodes ≡ end → end ≤ length words →
    AllNodes nodes → Passing (sets words start (renumbered nodes)) (sets words start nodes) start end
    (record { cells = replicate variable_count None; unused = first_variable })
passing-none words nodes start end e room all =
    let front = take start words in
    let back = drop (start + length nodes) words in
    let long : length (renumbered nodes) ≡ length nodes = length-map nodes _ in
    record {
      front = front;
      rest = nodes;
      back = back;
      seen = [];
      stand = sets-eq nodes words start (omega arith) ∙ append_assoc front nodes back;
      passed = length-take-le start words (omega arith);
      left = e;
      nodes = all;
      aimed = sets-eq (renumbered nodes) words start (omega arith)
          ∙ rw (long, renumber-at-once nodes []) (append_assoc front (renumbered nodes) back);
      numbered = cells-none;
    }

module _ {aim words : List ℕ} {i end : ℕ} {r : Renumbering} (p : Passing aim words i end r) where
  pub passing-done : end ≤ i → words ≡ aim
  unfolding renumber_from
  passing-done h = go p.rest p.stand p.aimed (omega (arith, p.left))
    where
      go : (rest : List ℕ) → words ≡ p.front ++ (rest ++ p.back) →
          aim ≡ p.front ++ (renumber_from p.seen rest ++ p.back) → length rest ≡ 0 → words ≡ aim
      go [] e f z = e ∙ sym f
      go (w ∷ ws) e f z = absurd (omega arith)

  -- The word at the index may be a node's, and once it is renumbered the next one is at hand.
  pub passing-more : i < end → (new : ℕ) (r' : Renumbering) →
      ((seen : List ℕ) → get_or words i 0 < first_variable + variable_count → Numbered seen r →
      WordNumbered seen (get_or words i 0) new r') →
      Passing aim (set words i new) (i + 1) end r'
  unfolding renumber_from
  passing-more h new r' word = go p.rest p.stand p.left p.nodes p.aimed
    where
      go : (rest : List ℕ) → words ≡ p.front ++ (rest ++ p.back) → i + length rest ≡ end → AllNodes rest →
          aim ≡ p.front ++ (renumber_from p.seen rest ++ p.back) →
          Passing aim (set words i new) (i + 1) end r'
      go [] e l a f = absurd (omega arith)
      go (w ∷ ws) e l a f =
          let at : get_or words i 0 ≡ w = rw e (get_or_at p.front w (ws ++ p.back) 0 i p.passed) in
          let (q, n) = rw at at (word p.seen (rw at a.0) p.numbered) in
          record {
            front = p.front ++ (new ∷ []);
            rest = ws;
            back = p.back;
            seen = see p.seen w;
            stand = rw e (set_at p.front w (ws ++ p.back) new i p.passed
                ∙ sym (append_assoc p.front (new ∷ []) (ws ++ p.back)));
            passed = omega (arith, p.passed, length-append p.front (new ∷ []));
            left = omega arith;
            nodes = a.1;
            aimed = f ∙ rw (← q)
                (sym (append_assoc p.front (new ∷ []) (renumber_from (see p.seen w) ws ++ p.back)));
            numbered = n;
          }
