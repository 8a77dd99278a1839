-- The definition tests the same.
use mathlib.Core.Path.{◌≡◌, sym, ◌∙◌}
use native.Mathlib.Omega.{arith}
use Rattle.multisets.proofs.Relations.{by_order}
use Rattle.scaling.specs.Scaled.{limit}
use Rattle.scaling.proofs.NearLaws.{cut_small, cut-large}
use Rattle.scaling.proofs.scan.cut.Goals as goal

pub returns : goal.returns
returns c =
    let n = c.args.n in
    by_order limit n (λ h. let e : c.min.result ≡ limit = omega arith in e ∙ sym (cut-large n h))
    λ h. let e : c.min.result ≡ n = omega arith in e ∙ sym (cut_small n h)
