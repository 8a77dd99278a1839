-- The bits of eight bytes from the offset's own on, less those before the offset.
use Rattle.bits.proofs.WindowLaws.{ahead-eight}
use Rattle.bits.proofs.window.Window.refilled.Goals as goal

pub returns : goal.returns
returns c =
    let a = c.args in
    rw (c.four_at.ensures.0, c.four_at-2.ensures.0)
    (ahead-eight a.book.bytes.now a.book.fits a.at c.if-book-index.false)
