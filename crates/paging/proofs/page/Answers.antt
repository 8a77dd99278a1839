-- The marks and margins are found in memory of its own; the lines are put where the file is read and there is room.
use mathlib.Core.Path.{sym, ◌∙◌}
use native.Mathlib.Omega.{arith}
use Rattle.marking.proofs.FoundLaws.{walked, rules-below}
use Rattle.paging.proofs.PagingLaws.{kept-fit, page-refused, page-short, page-written}
use Rattle.paging.proofs.page.Goals as goal

pub overflow_mul-count : goal.overflow_mul-count
overflow_mul-count c =
    let w = c.mark_file.ensures in
    record { fits = omega (arith, rules-below _ _ _ _ _ _ w _ c.in-Ok.is 1024 (omega arith)) }

pub push_lines-requires : goal.push_lines-requires
push_lines-requires c =
    let fit = kept-fit _ _ _ _ _ _ c.mark_file.ensures _ c.in-Ok.is (omega arith) (omega arith) in
    record {
      all_fit = fit;
      marks_len_bound = search walked;
      end_bound = omega arith;
    }

pub returns-then-page-count-clause-result_value : goal.returns-then-page-count-clause-result_value
returns-then-page-count-clause-result_value c =
    (page-short _ _ _ _ _ _ c.mark_file.ensures _ c.in-Ok.is _ c.if-page-count.true).0

pub returns-then-page-count-clause-page_after : goal.returns-then-page-count-clause-page_after
returns-then-page-count-clause-page_after c =
    (page-short _ _ _ _ _ _ c.mark_file.ensures _ c.in-Ok.is _ c.if-page-count.true).1

pub returns-in-Err-clause-result_value : goal.returns-in-Err-clause-result_value
returns-in-Err-clause-result_value c =
    (page-refused _ _ _ _ _ _ c.mark_file.ensures _ _ c.in-Err.is _ c.in_input.ensures).0

pub returns-in-Err-clause-page_after : goal.returns-in-Err-clause-page_after
returns-in-Err-clause-page_after c =
    (page-refused _ _ _ _ _ _ c.mark_file.ensures _ _ c.in-Err.is _ c.in_input.ensures).1

pub returns-else-page-count-clause-result_value : goal.returns-else-page-count-clause-result_value
returns-else-page-count-clause-result_value c =
    let (same, start) = c.new-text.ensures.value in
    (page-written _ _ _ _ _ _ c.mark_file.ensures _ c.in-Ok.is (omega arith) (omega arith) _ _ c.if-page-count.false
    (rw (same, start) at c.push_lines.ensures.put.1)).0

pub returns-else-page-count-clause-page_after : goal.returns-else-page-count-clause-page_after
returns-else-page-count-clause-page_after c =
    let (same, start) = c.new-text.ensures.value in
    let written = (page-written _ _ _ _ _ _ c.mark_file.ensures _ c.in-Ok.is (omega arith) (omega arith) _ _
    c.if-page-count.false (rw (same, start) at c.push_lines.ensures.put.1)).1 in
    c.page-1.given.1.1 (sym (c.push_lines.ensures.same ∙ c.new-text.ensures.same)) ∙ written
