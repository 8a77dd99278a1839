-- Words that were put into buffers, compared.
--     put_words     they are the first words of a buffer that was empty
--     same_words    two lists that `==` compares
use mathlib.Core.List.{List}
use mathlib.Core.Path.{◌≡◌, sym, ap, ◌∙◌}
use mathlib.Core.Bool.{Bool, false≢true}
use Prim.Native.Nat.{ℕ, ◌+◌, ◌≤◌}
use native.Mathlib.Omega.{arith}
use lib.ListN.{length, take, drop}
use lib.Seq.{sets-eq, take_at}
use lib.Dec.{eqb}
use Rattle.std.specs.Cmp.Lexicographic.{pointwise}
use Rattle.std.proofs.lemmas.Slice.Eq.{slice_eq-Decides}
use Rattle.std.proofs.lemmas.Bool.Decides.{Decides-eqb}
use Rattle.pieces.specs.Buffer.{Put, Same}

pub put_words : {l ws out : List ℕ} {at n : ℕ} → length l ≡ 48 → at ≡ 0 → length ws ≤ 48 → Put l at ws n out →
    take n out ≡ ws
put_words {l} {ws} e z h p =
    rw (p.after, p.there.stored, z) (ap (take (0 + length ws)) (sets-eq ws l 0 (omega arith))
    ∙ take_at ws (drop (0 + length ws) l) (0 + length ws) (omega arith))

pub same_words : {vs ws xs ys : List ℕ} {r : Bool} → xs ≡ vs → ys ≡ ws → r ≡ pointwise eqb xs ys → Same r vs ws
same_words {vs} {ws} {xs} {ys} {r} d e h =
    let D = slice_eq-Decides Decides-eqb xs ys r h in
    record {
      yes = λ y. sym d ∙ D.0 y ∙ e;
      no = λ n q. false≢true (sym n ∙ D.1 (d ∙ q ∙ sym e));
    }
