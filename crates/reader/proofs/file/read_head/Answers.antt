-- The length is tested, and what follows is read.
use lib.ListN.{length}
use borrow.Author.Tests.{lt-leb}
use Rattle.format.specs.Layout.{max_bytes}
use Rattle.reader.specs.Source.{read_source}
use Rattle.reader.proofs.SourceLaws.{read-packed}
use Rattle.reader.proofs.file.read_head.Goals as goal

pub returns-then-book-gt-MAX_BYTES : goal.returns-then-book-gt-MAX_BYTES
unfolding read_source
returns-then-book-gt-MAX_BYTES c =
    rw (
      ← read-packed c.args.form.number c.args.book.now,
      lt-leb (length c.args.book.now) max_bytes
          c.if-book-gt-MAX_BYTES.true,
    )

pub returns : goal.returns
returns c = rw (← read-packed c.args.form.number c.args.book.now) c.read_front.ensures
