use borrow.Author.Rules.{rules}
use native.Mathlib.Omega.{arith}
use Rattle.listing.proofs.Lines.{whole}
use Rattle.listing.proofs.listing.Goals as goal

pub returns : goal.returns
returns c =
    let w = c.put_listing.ensures in
    let h = whole w.listing c.new-page.ensures.text c.new-page.ensures.start (omega (arith, w.most)) in
    search (rules, h)
