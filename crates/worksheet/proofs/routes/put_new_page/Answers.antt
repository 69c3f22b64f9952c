-- `worksheet::routes::put_new_page` meets its contract: nothing, or a form feed and the head.
use native.Mathlib.Omega.{arith}
use borrow.Author.Tests.{lt-ltb, le-ltb, eq-eqb, ne_eqb}
use Rattle.lines.proofs.putting.Placing.{put_none, put_on}
use Rattle.worksheet.specs.Routes.{new_page}
use Rattle.worksheet.proofs.routes.put_new_page.Goals as goal

pub returns-then-index-lt2 : goal.returns-then-index-lt2
unfolding new_page
returns-then-index-lt2 c = rw (lt-ltb _ _ c.if-index-lt2.true) (put_none, omega arith)

pub returns-then-index-ne0 : goal.returns-then-index-ne0
unfolding new_page
returns-then-index-ne0 c = rw (le-ltb _ _ c.if-index-lt2.false, ne_eqb _ _ c.if-index-ne0.true) (put_none, omega arith)

pub returns : goal.returns
unfolding new_page
returns c = rw (le-ltb _ _ c.if-index-lt2.false, eq-eqb _ _ c.if-index-ne0.false) (put_on (c.put-feed.ensures.put (omega arith)) c.put_head.ensures.0 (omega arith), omega arith)
