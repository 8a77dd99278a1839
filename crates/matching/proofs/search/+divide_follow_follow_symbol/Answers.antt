-- Each word has one way on, none, or one for each mask that divides a sum; the words that are left fall, and with them
-- the masks of a sum.
use native.Mathlib.Omega.{arith}
use mathlib.Core.Path.{sym, ap, ◌∙◌}
use lib.ListN.{length}
use Rattle.matching.proofs.AgendaLaws.{nodes-then, in-keys}
use Rattle.matching.proofs.MatchingLaws.{matching-kept}
use Rattle.matching.proofs.FollowLaws.{TakenBy, searched-end, searched-clash, searched-arguments, searched-divided, taken-all, taken_own, dividing}
use Rattle.matching.proofs.DividingLaws.{dividing-next, divided-found, divided-next}
use Rattle.matching.proofs.SearchingLaws.{first_piece, searched-first, searched-variable, searched-refused, word-inside, searching-rest, searching-variable, searching-more, searched-empty, searching-again, pending-again, two-arguments, two-fit, root-small, inner-stands, few-elements, all-some, mask-small}
use Rattle.matching.proofs.search.+divide_follow_follow_symbol.Goals.{follow_symbol-then-piece-eq0, follow_symbol-else-piece-eq0}
use Rattle.matching.proofs.search.+divide_follow_follow_symbol.Goals as goal

pub divide-push_sums-after-requires-clause-room : goal.divide-push_sums-after-requires-clause-room
divide-push_sums-after-requires-clause-room t c =
    two-fit c.requires.searching (matching-kept c.args.sought.now.matching) c.requires.dividing.word
    c.requires.p_value

pub divide-follow-requires : goal.divide-follow-requires
divide-follow-requires t c =
    let S = c.requires.searching in
    let M = matching-kept c.args.sought.now.matching in
    let h = c.requires.dividing.word in
    let n = c.next.ensures in (
      omega (arith, c.decreases, h, n.offset, ap length n.pattern),
      rw (n.table, n.words, n.pattern, n.offset) (searching-more S h (two-arguments S M h c.requires.p_value)
          c.push_sums-after.ensures.extended c.push_sums-after.ensures.pending_after
          c.push_sums-after.result.first),
    )

pub divide-returns-then-follow-clause-divided : goal.divide-returns-then-follow-clause-divided
divide-returns-then-follow-clause-divided t c =
    let S = c.requires.searching in
    let n = c.next.ensures in
    let X = c.push_sums-after.ensures.extended in
    let terms = rw (← c.push_sums-after.ensures.pending_after.1) at (X.terms c.args.pending.owed S.pending) in
    divided-found _ _ _ c.requires.dividing _ _ _ c.if-a-eq0.false _ terms _ _ _ c.if-follow.true
    (rw (n.table, n.words, n.pattern, n.offset) at c.follow.ensures.searched)

pub divide-divide-requires : goal.divide-divide-requires
divide-divide-requires t c =
    let S = c.requires.searching in
    let G = c.requires.dividing in
    let n = c.next.ensures in
    let K = nodes-then c.push_sums-after.ensures.extended.kept c.follow.ensures.kept_nodes (omega arith) in (
      omega (arith, c.decreases, c.next_within.ensures.1),
      (
        searching-again S (rw (n.table, n.words) at c.follow.ensures.searched.bound) K,
        (dividing-next G c.next_within.ensures.0 c.next_within.ensures.1, c.requires.p_value),
      ),
    )

pub divide-returns-clause-divided : goal.divide-returns-clause-divided
divide-returns-clause-divided t c =
    let S = c.requires.searching in
    let n = c.next.ensures in
    let X = c.push_sums-after.ensures.extended in
    let K = nodes-then X.kept c.follow.ensures.kept_nodes (omega arith) in
    let terms = rw (← c.push_sums-after.ensures.pending_after.1) at (X.terms c.args.pending.owed S.pending) in
    divided-next _ _ _ c.requires.dividing _ _ _ c.if-a-eq0.false _ terms _ _ _ c.if-follow.false
    (rw (n.table, n.words, n.pattern, n.offset) at c.follow.ensures.searched) _ c.next_within.ensures.0 _
    (pending-again S K) _ _ _ c.divide.ensures.divided

pub follow-returns-then-sought-clause-searched : goal.follow-returns-then-sought-clause-searched
follow-returns-then-sought-clause-searched t c =
    searched-end _ _ _ _ _ _ _ c.if-sought.true c.requires.searching.bound

pub follow-returns-then-pending-eq0-clause-searched : goal.follow-returns-then-pending-eq0-clause-searched
follow-returns-then-pending-eq0-clause-searched t c =
    let S = c.requires.searching in
    searched-empty S (word-inside S c.if-sought.false) c.if-pending-eq0.true

pub follow-follow_symbol-requires : goal.follow-follow_symbol-requires
follow-follow_symbol-requires t c =
    let S = c.requires.searching in
    let d = c.if-pending-eq0.false in
    let p = c.first.ensures.piece in
    let r = c.first.ensures.pending_after in
    let h = word-inside S c.if-sought.false in (
      omega (arith, c.decreases, h),
      (
        rw (r.0, r.2) (searching-rest S d r.1 c.first.result.1.first),
        (rw p.1 (first_piece S d p.0), h, c.if-sought-lt-FIRST_VARIABLE.true),
      ),
    )

pub follow-returns-then-sought-lt-FIRST_VARIABLE-clause-searched :
    goal.follow-returns-then-sought-lt-FIRST_VARIABLE-clause-searched
follow-returns-then-sought-lt-FIRST_VARIABLE-clause-searched t c =
    let p = c.first.ensures.piece in
    let r = c.first.ensures.pending_after in
    searched-first c.requires.searching c.if-pending-eq0.false p.0 r.1
    (rw (p.1, r.2) at c.follow_symbol.ensures.searched)

pub follow-bind-requires-clause-pending : goal.follow-bind-requires-clause-pending
follow-bind-requires-clause-pending t c =
    let p = c.first.ensures.piece in
    rw p.1 (first_piece c.requires.searching c.if-pending-eq0.false p.0)

pub follow-follow-requires : goal.follow-follow-requires
follow-follow-requires t c =
    let S = c.requires.searching in
    let r = c.first.ensures.pending_after in
    let n = c.next.ensures in
    let h = word-inside S c.if-sought.false in (
      omega (arith, c.decreases, h, n.offset, ap length n.pattern),
      rw (n.table, n.words, n.pattern, n.offset, r.0, r.2)
          (searching-variable S c.if-pending-eq0.false r.1 c.first.result.1.first h c.bind.ensures.bound),
    )

pub follow-returns-then-bind-clause-searched : goal.follow-returns-then-bind-clause-searched
follow-returns-then-bind-clause-searched t c =
    let S = c.requires.searching in
    let p = c.first.ensures.piece in
    let r = c.first.ensures.pending_after in
    let n = c.next.ensures in
    searched-variable S c.if-pending-eq0.false p.0 r.1 (word-inside S c.if-sought.false)
    (rw p.1 at c.bind.ensures) c.if-bind.true
    (rw (n.table, n.words, n.pattern, n.offset, r.2) at c.follow.ensures.searched)

pub follow-returns-clause-searched : goal.follow-returns-clause-searched
follow-returns-clause-searched t c =
    let S = c.requires.searching in
    let p = c.first.ensures.piece in
    let r = c.first.ensures.pending_after in
    searched-refused S c.if-pending-eq0.false p.0 r.1 (word-inside S c.if-sought.false)
    (rw p.1 at c.bind.ensures) c.if-bind.false

pub follow_symbol-returns-then-sought-i-clause-searched : goal.follow_symbol-returns-then-sought-i-clause-searched
follow_symbol-returns-then-sought-i-clause-searched t c =
    let q = c.requires.pending in
    searched-clash (matching-kept c.args.sought.now.matching) q.0 q.1 q.2 _ _ _ c.requires.searching.bound
    c.if-sought-i.true

pub follow_symbol-all_elements-all-requires-clause-i_len_bound :
    goal.follow_symbol-all_elements-all-requires-clause-i_len_bound
follow_symbol-all_elements-all-requires-clause-i_len_bound t c =
    let q = c.requires.pending in
    few-elements (matching-kept c.args.sought.now.matching) q.0 c.args.sought.now.p q.2 c.if-sought-i.false
    (sym c.if-is_ac.true ∙ c.is_ac.ensures)

pub follow_symbol-next_within-requires : goal.follow_symbol-next_within-requires
follow_symbol-next_within-requires t c =
    let M = matching-kept c.args.sought.now.matching in
    let q = c.requires.pending in
    elim c.if-piece-eq0.branch [
      | follow_symbol-then-piece-eq0 w ↦ rw w.all-is (all-some M q.0 c.args.sought.now.p q.2 c.if-sought-i.false
          (sym c.if-is_ac.true ∙ c.is_ac.ensures) w.all_elements-all.ensures.value)
      | follow_symbol-else-piece-eq0 w ↦ rw w.all-is (omega (arith, w.if-piece-eq0.false))
    ]

pub follow_symbol-divide-requires : goal.follow_symbol-divide-requires
follow_symbol-divide-requires t c =
    let M = matching-kept c.args.sought.now.matching in
    let q = c.requires.pending in
    let e = c.if-sought-i.false in
    let k = sym c.if-is_ac.true ∙ c.is_ac.ensures in
    let v = root-small M q.0 c.args.sought.now.p q.2 e in
    let T : TakenBy M q.0 c.if-piece-eq0.all =
    elim c.if-piece-eq0.branch [
      | follow_symbol-then-piece-eq0 w ↦ rw w.all-is (taken-all M q.0 v w.if-piece-eq0.true _
          w.all_elements-all.ensures.value)
      | follow_symbol-else-piece-eq0 w ↦ rw w.all-is (taken_own M q.0 v w.if-piece-eq0.false)
    ] in (
      omega (
        arith,
        c.decreases,
        q.1,
        mask-small M q.0 c.args.sought.now.p q.2 e k _ T.bound,
        c.next_within.ensures.1,
      ),
      (
        c.requires.searching,
        (dividing M q.0 q.1 q.2 e k T c.next_within.ensures.0 c.next_within.ensures.1, sym k),
      ),
    )

pub follow_symbol-returns-then-is_ac-clause-searched : goal.follow_symbol-returns-then-is_ac-clause-searched
follow_symbol-returns-then-is_ac-clause-searched t c =
    let M = matching-kept c.args.sought.now.matching in
    let q = c.requires.pending in
    let e = c.if-sought-i.false in
    let v = root-small M q.0 c.args.sought.now.p q.2 e in
    let T : TakenBy M q.0 c.if-piece-eq0.all =
    elim c.if-piece-eq0.branch [
      | follow_symbol-then-piece-eq0 w ↦ rw w.all-is (taken-all M q.0 v w.if-piece-eq0.true _
          w.all_elements-all.ensures.value)
      | follow_symbol-else-piece-eq0 w ↦ rw w.all-is (taken_own M q.0 v w.if-piece-eq0.false)
    ] in
    searched-divided M q.0 q.1 q.2 _ _ _ e (sym c.if-is_ac.true ∙ c.is_ac.ensures) T _
    c.next_within.ensures.0 _ _ _ c.divide.ensures.divided

pub follow_symbol-push_terms-after-requires-clause-in_keys :
    goal.follow_symbol-push_terms-after-requires-clause-in_keys
follow_symbol-push_terms-after-requires-clause-in_keys t c =
    let M = matching-kept c.args.sought.now.matching in
    let q = c.requires.pending in
    in-keys M.prepared _ _ (inner-stands M q.0 c.args.sought.now.p q.2 c.if-sought-i.false c.arity.ensures.0)

pub follow_symbol-follow-requires : goal.follow_symbol-follow-requires
follow_symbol-follow-requires t c =
    let M = matching-kept c.args.sought.now.matching in
    let q = c.requires.pending in
    let n = c.next.ensures in
    let S = inner-stands M q.0 c.args.sought.now.p q.2 c.if-sought-i.false c.arity.ensures.0 in
    let X = c.push_terms-after.ensures.extended _ _ M.prepared S in (
      omega (arith, c.decreases, q.1, n.offset, ap length n.pattern),
      rw (n.table, n.words, n.pattern, n.offset) (searching-more c.requires.searching q.1 c.arity.ensures.0 X
          c.push_terms-after.ensures.pending_after c.push_terms-after.result.first),
    )

pub follow_symbol-returns-clause-kept_nodes : goal.follow_symbol-returns-clause-kept_nodes
follow_symbol-returns-clause-kept_nodes t c =
    let M = matching-kept c.args.sought.now.matching in
    let q = c.requires.pending in
    let S = inner-stands M q.0 c.args.sought.now.p q.2 c.if-sought-i.false c.arity.ensures.0 in
    let X = c.push_terms-after.ensures.extended _ _ M.prepared S in
    nodes-then X.kept c.follow.ensures.kept_nodes (omega (arith, c.push_terms-after.ensures.pending_after.0))

pub follow_symbol-returns-clause-searched : goal.follow_symbol-returns-clause-searched
follow_symbol-returns-clause-searched t c =
    let M = matching-kept c.args.sought.now.matching in
    let q = c.requires.pending in
    let n = c.next.ensures in
    let S = inner-stands M q.0 c.args.sought.now.p q.2 c.if-sought-i.false c.arity.ensures.0 in
    let X = c.push_terms-after.ensures.extended _ _ M.prepared S in
    let terms = rw (← c.push_terms-after.ensures.pending_after.1) at (X.terms c.args.pending.owed
    c.requires.searching.pending) in
    searched-arguments M q.0 q.1 q.2 _ _ _ c.if-sought-i.false
    (sym c.if-is_ac.false ∙ c.is_ac.ensures) _ c.arity.ensures.0 _ terms _ _ _
    (rw (n.table, n.words, n.pattern, n.offset) at c.follow.ensures.searched)
