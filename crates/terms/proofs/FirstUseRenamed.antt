-- Renumbering node words by first use does not see a renaming that is one to one on their variables.
--     AllAmong, see_all-among       what is seen comes from the words
--     place-rename, see_all-rename  places, and what is seen, after a renaming
--     renumbered-renamed           the renumbered words
use mathlib.Core.List.Memᴰ
use mathlib.Core.List.{List, [], ◌∷◌, map, map-append, Memᴰ}
use mathlib.Core.Logic.{⊎_elim}
use mathlib.Core.Path.{◌≡◌, refl, sym, ap, ap₂, ◌∙◌}
use mathlib.Core.Bool.{Bool, cond, ◌||◌}
use Prim.Native.Nat.{ℕ, suc, ◌+◌}
use lib.Dec.{eqb}
use Rattle.multisets.specs.Multiset.{some}
use Rattle.terms.specs.Words.{first_variable}
use Rattle.terms.specs.FirstUse.{see, see_all, first_uses, place_in, rename_word, renumbered}
use Rattle.terms.specs.FirstUse.{OneToOneOnWords}
use Rattle.terms.proofs.RenamingLaws.{eqb-rename}
use Rattle.terms.proofs.FirstUseLaws.{by_word, by_sight, rename_word-symbol, rename_word-variable, see-symbol}
use Rattle.terms.proofs.FirstUseLaws.{see-known, see-new}

-- ---- what is seen

module _ (Among : ℕ → Type 0) where
  abbrev pub AllAmong : List ℕ → Type 0
  AllAmong l = (x : ℕ) → Memᴰ x l → Among x

  -- The variable of a word, the variables of words.
  abbrev WordAmong : ℕ → Type 0
  WordAmong w = (x : ℕ) → w ≡ first_variable + x → Among x

  abbrev pub WordsAmong : List ℕ → Type 0
  WordsAmong ws = (x : ℕ) → Memᴰ (first_variable + x) ws → Among x

  see-among : (seen : List ℕ) (w : ℕ) → AllAmong seen → WordAmong w → AllAmong (see seen w)
  see-among seen w h k y m =
      by_sight seen w (λ l. h y (rw (see-symbol seen w l) at m)) (λ x e l. h y (rw (e, see-known seen x l) at m))
      λ x e l. ⊎_elim (h y) (λ i. let q : y ≡ x = Memᴰ.eq_of_singleton i in rw q (k x e))
      (Memᴰ.append_cases seen (rw (e, see-new seen x l) at m))

  pub see_all-among : (ws seen : List ℕ) → AllAmong seen → WordsAmong ws → AllAmong (see_all seen ws)
  unfolding see_all
  see_all-among [] seen h k = h
  see_all-among (w ∷ ws) seen h k =
      see_all-among ws (see seen w) (see-among seen w h λ x e. k x (Memᴰ.head (sym e)))
      λ x m. k x (Memᴰ.tail m)

-- ---- after a renaming

module _ (ρ : ℕ → ℕ) (Among : ℕ → Type 0) (one : (x y : ℕ) → Among x → Among y → ρ x ≡ ρ y → x ≡ y) where
  some-rename : (l : List ℕ) (x : ℕ) → Among x → AllAmong Among l →
      some (eqb (ρ x)) (map ρ l) ≡ some (eqb x) l
  some-rename [] x a h = refl
  some-rename (y ∷ l) x a h =
      ap₂ ◌||◌ (eqb-rename ρ Among one x y a (h y (Memᴰ.head refl)))
      (some-rename l x a λ z m. h z (Memᴰ.tail m))

  pub place-rename : (l : List ℕ) (x : ℕ) → Among x → AllAmong Among l → place_in (map ρ l) (ρ x) ≡ place_in l x
  unfolding place_in
  place-rename [] x a h = refl
  place-rename (y ∷ l) x a h =
      ap₂ (λ (b : Bool) (n : ℕ). cond b 0 (suc n)) (eqb-rename ρ Among one x y a (h y (Memᴰ.head refl)))
      (place-rename l x a λ z m. h z (Memᴰ.tail m))

  see-rename : (seen : List ℕ) (w : ℕ) → AllAmong Among seen → WordAmong Among w →
      see (map ρ seen) (rename_word ρ w) ≡ map ρ (see seen w)
  see-rename seen w h k =
      by_sight seen w
      (λ l. rw (rename_word-symbol ρ w l, see-symbol seen w l) (see-symbol (map ρ seen) w l))
      (λ x e l. rw (e, rename_word-variable ρ x, see-known seen x l)
      (see-known (map ρ seen) (ρ x) (some-rename seen x (k x e) h ∙ l)))
      λ x e l. rw (e, rename_word-variable ρ x, see-new seen x l)
      (see-new (map ρ seen) (ρ x) (some-rename seen x (k x e) h ∙ l) ∙ sym (map-append ρ seen (x ∷ [])))

  pub see_all-rename : (ws seen : List ℕ) → AllAmong Among seen → WordsAmong Among ws →
      see_all (map ρ seen) (map (rename_word ρ) ws) ≡ map ρ (see_all seen ws)
  unfolding see_all
  see_all-rename [] seen h k = refl
  see_all-rename (w ∷ ws) seen h k =
      let here : WordAmong Among w = λ x e. k x (Memᴰ.head (sym e)) in
      ap (λ (l : List ℕ). see_all l (map (rename_word ρ) ws)) (see-rename seen w h here)
      ∙ see_all-rename ws (see seen w) (see-among Among seen w h here) λ x m. k x (Memᴰ.tail m)

  word-rename : (l : List ℕ) (w : ℕ) → AllAmong Among l → WordAmong Among w →
      rename_word (place_in (map ρ l)) (rename_word ρ w) ≡ rename_word (place_in l) w
  word-rename l w h k =
      by_word w (λ i. rw (rename_word-symbol ρ w i) (rename_word-symbol (place_in (map ρ l)) w i
      ∙ sym (rename_word-symbol (place_in l) w i)))
      λ x e. rw (e, rename_word-variable ρ x) (rename_word-variable (place_in (map ρ l)) (ρ x)
      ∙ ap (◌+◌ first_variable) (place-rename l x (k x e) h) ∙ sym (rename_word-variable (place_in l) x))

  words-renamed : (l ws : List ℕ) → AllAmong Among l → WordsAmong Among ws →
      map (rename_word (place_in (map ρ l))) (map (rename_word ρ) ws) ≡ map (rename_word (place_in l)) ws
  words-renamed l [] h k = refl
  words-renamed l (w ∷ ws) h k =
      ap₂ ◌∷◌ (word-rename l w h λ x e. k x (Memᴰ.head (sym e)))
      (words-renamed l ws h λ x m. k x (Memᴰ.tail m))

pub renumbered-renamed : (ρ : ℕ → ℕ) (ws : List ℕ) → OneToOneOnWords ρ ws →
    renumbered (map (rename_word ρ) ws) ≡ renumbered ws
renumbered-renamed ρ ws one =
    let Among : ℕ → Type 0 = λ x. Memᴰ (first_variable + x) ws in
    let none : AllAmong Among [] = λ x m. absurd (Memᴰ.not-nil m) in
    rw (see_all-rename ρ Among one ws [] none λ x m. m)
    (words-renamed ρ Among one (first_uses ws) ws (see_all-among Among ws [] none λ x m. m) λ x m. m)
