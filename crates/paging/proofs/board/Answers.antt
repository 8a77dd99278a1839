-- The page is put, or the refusal's line, since there is room for any page.
use mathlib.Core.Path.{◌∙◌}
use native.Mathlib.Omega.{arith}
use Rattle.format.specs.Layout.{form_number}
use Rattle.format.proofs.FaultLaws.{fault-small}
use Rattle.paging.proofs.PagingLaws.{board-page, board-refusal, refusal-text}
use Rattle.paging.proofs.board.Goals as goal

pub put_refusal-requires : goal.put_refusal-requires
put_refusal-requires c =
    let a = c.args in
    let e₁ = rw c.in-Err.is at c.page.ensures.result_value in
    let e₂ = c.page.ensures.page_after in
    let (f, same) = board-refusal a.book.now a.out.now (omega arith) _ _ e₁ e₂ in
    (omega arith, fault-small a.book.now form_number _ _ f)

pub returns-in-Ok : goal.returns-in-Ok
returns-in-Ok c =
    let a = c.args in
    let e₁ = rw c.in-Ok.is at c.page.ensures.result_value in
    let e₂ = c.page.ensures.page_after in
    let both =
    board-page a.book.now a.out.now (omega arith) _ _ e₁ e₂
    in record {
      value = both.0;
      out_after = both.1;
    }

pub returns-in-Err : goal.returns-in-Err
returns-in-Err c =
    let a = c.args in
    let e₁ = rw c.in-Err.is at c.page.ensures.result_value in
    let e₂ = c.page.ensures.page_after in
    let code = c.from.ensures ∙ c.number.ensures in
    let (f, same) = board-refusal a.book.now a.out.now (omega arith) _ _ e₁ e₂ in
    let (r, out) = refusal-text a.book.now a.out.now (omega arith) _ _ _ _ _ f same
    (rw code at c.put_refusal.ensures.value) (rw code at c.put_refusal.ensures.out_after) in
    record {
      value = (r, omega (arith, c.put_refusal.ensures.upper_bound));
      out_after = out;
    }
