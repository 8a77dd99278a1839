-- The bits that wait, shifted to the front of 64, are eight bytes, of which the whole ones of the bits count.
use mathlib.Core.Path.{◌≡◌, ◌∙◌}
use Prim.Native.Nat.{ℕ, ◌+◌, ◌-◌, ◌*◌, ◌/◌, ◌%◌, ◌^◌, ◌≤◌}
use native.Mathlib.Omega.{arith}
use lib.ListN.{length, take}
use lib.Seq.{sets, length-sets}
use Rattle.writer.specs.Writer.{eight_bytes}
use Rattle.writer.proofs.WriterLaws.{writes-first}
use Rattle.writer.proofs.BitWriter.flush.Goals as goal
use Rattle.writer.proofs.BitWriter.flush.Goals.{Joined-bytes-self, then-bytes-self, else-bytes-self}

-- Either way the first of the eight bytes are stored, at least the whole ones.
put : (c : Joined-bytes-self) → let a = c.args in
    (n : ℕ) × (a.self.count / 8 ≤ n) × (n ≤ 8) × (a.self.stored + n ≤ length a.bytes.now) ×
    (c.if-bytes-self.bytes ≡ sets a.bytes.now a.self.stored
    (take n (eight_bytes (a.self.pending * 2 ^ (64 - a.self.count) % 2 ^ 64))))
put c =
    let a = c.args in
    elim c.if-bytes-self.branch [
      | then-bytes-self w ↦ (
        a.self.count / 8,
        omega arith,
        omega arith,
        omega (arith, c.requires.1),
        w.bytes-is ∙ w.put_first.ensures,
      )
      | else-bytes-self w ↦ (8, omega arith, omega arith, w.if-bytes-self.false, w.bytes-is ∙ w.put_eight.ensures)
    ]

pub shape_of-bytes : goal.shape_of-bytes
shape_of-bytes c =
    let a = c.args in
    let (n, _, _, _, e) = put (goal.at.shape_of-bytes c).Joined-bytes-self in
    rw e (length-sets a.bytes.now a.self.stored
    (take n (eight_bytes (a.self.pending * 2 ^ (64 - a.self.count) % 2 ^ 64))))

pub returns : goal.returns
returns c =
    let a = c.args in
    let (n, whole, few, room, e) = put (goal.at.returns c).Joined-bytes-self in record {
      count_bound = (omega arith, omega arith);
      by_index = λ bits h. rw e (writes-first bits a.self a.bytes.now h n whole few c.requires.0 room);
    }
