-- Text stored in a buffer: after other text, byte by byte, in lines and in columns. Laws of decimal numbers are in
-- `operations`.
use mathlib.Core.List.{List, [], ◌∷◌, ◌++◌, append_assoc}
use mathlib.Core.Path.{◌≡◌, refl, sym, ◌∙◌}
use Prim.Native.Nat.{ℕ, suc, ◌+◌, ◌/◌, ◌%◌, ◌≤◌, ◌<◌}
use native.Mathlib.Nat.{zero-add}
use native.Mathlib.Omega.{arith}
use lib.ListN.{length, get_or, take, drop, length-append, replicate-append-replicate}
use lib.Seq.{sets, sets-eq, take-suc, take-append_seam}
use Rattle.multisets.proofs.ListLaws.{sets-append}
use Rattle.text.specs.declared.Text.{Text}
use Rattle.text.specs.Put.{Put, Pushed}
use Rattle.operations.specs.Text.{decimal, line, spaces}
use Rattle.operations.proofs.DecimalLaws.{decimal-small, decimal-large}

-- ---- text put into a list

pub put-append : (l : List ℕ) (at : ℕ) (xs ys : List ℕ) (next : ℕ) (mid : List ℕ) (r : ℕ) (out : List ℕ) →
    Put l at xs next mid → Put mid next ys r out → Put l at (xs ++ ys) r out
put-append l at xs ys next mid r out p q = (
  omega (arith, length-append xs ys),
  q.1 ∙ rw (p.0, p.1) (sym (sets-append l at xs ys)),
)

-- ---- text pushed after other text

pub pushed-append : {a b c : Text} {xs ys : List ℕ} → Pushed a xs b → Pushed b ys c → Pushed a (xs ++ ys) c
pushed-append p q = record { same = q.same ∙ p.same; put = put-append _ _ _ _ _ _ _ _ p.put q.put }

pub pushed-none : (a : Text) → Pushed a [] a
pushed-none a = record { same = refl; put = (omega arith, refl) }

-- The first bytes of a text, and one more.
pub pushed-next : {a b c : Text} (i : ℕ) (bytes : List ℕ) → i < length bytes → Pushed a (take i bytes) b →
    Pushed b (get_or bytes i 0 ∷ []) c → Pushed a (take (i + 1) bytes) c
pushed-next i bytes h p q = let j : i + 1 ≡ suc i = omega arith in rw (j, take-suc bytes i 0 h) (pushed-append p q)

pub pushed-space : {a b c : Text} (i : ℕ) → Pushed a (spaces i) b → Pushed b (32 ∷ []) c → Pushed a (spaces (i + 1)) c
pushed-space i p q = rw (← replicate-append-replicate {A = ℕ} i 1 32) (pushed-append p q)

-- A number below 10 is one digit; of another the digits before the last are pushed first.
pub pushed-digit : {a b : Text} (n : ℕ) → n < 10 → Pushed a ((48 + n % 10) ∷ []) b → Pushed a (decimal n) b
pushed-digit n h p = let e : n % 10 ≡ n = omega arith in rw (decimal-small n h, ← e) p

pub pushed-digits : {a b c : Text} (n : ℕ) → 10 ≤ n → Pushed a (decimal (n / 10)) b →
    Pushed b ((48 + n % 10) ∷ []) c → Pushed a (decimal n) c
pushed-digits n h p q = rw (decimal-large n h) (pushed-append p q)

-- A text that is put first stands there.
pub put-stands : (l text : List ℕ) (n : ℕ) (out : List ℕ) → Put l 0 text n out → length text ≤ length l →
    take n out ≡ text
put-stands l text n out p h =
    let k : n ≡ length text = omega (arith, p.0) in
    rw (p.1, sets-eq text l 0 (omega arith), k) (take-append_seam text (drop (0 + length text) l))

-- ---- lines, word by word

pub pushed-line2 : {l m r : Text} (a b : List ℕ) → Pushed l (a ++ (32 ∷ [])) m → Pushed m (b ++ (10 ∷ [])) r →
    Pushed l (line (a ∷ b ∷ [])) r
pushed-line2 a b p q = rw (← append_assoc a (32 ∷ []) (b ++ (10 ∷ []))) (pushed-append p q)

pub pushed-line3 : {l m n r : Text} (a b c : List ℕ) → Pushed l (a ++ (32 ∷ [])) m → Pushed m (b ++ (32 ∷ [])) n →
    Pushed n (c ++ (10 ∷ [])) r → Pushed l (line (a ∷ b ∷ c ∷ [])) r
pushed-line3 a b c p q t =
    rw (← append_assoc a (32 ∷ []) (line (b ∷ c ∷ []))) (pushed-append p (pushed-line2 b c q t))

pub put_first : (l : List ℕ) (text : List ℕ) (r : ℕ) (out : List ℕ) → Put l 0 text r out →
    (r ≡ length text) × (out ≡ sets l 0 text)
put_first l text r out p = (p.0 ∙ zero-add (length text), p.1)
