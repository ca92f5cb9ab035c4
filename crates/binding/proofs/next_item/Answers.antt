-- `binding::next_item` meets its contract. Assumes nothing.
use Rattle.binding.proofs.NextItem.{next-b, next-c}
use Rattle.binding.proofs.next_item.Goals as goal

pub returns-then-w-eq46 : goal.returns-then-w-eq46
returns-then-w-eq46 c = next-b c.args.w c.if-w-eq46.true

pub returns-else-w-eq46 : goal.returns-else-w-eq46
returns-else-w-eq46 c = next-c c.args.w c.requires c.if-w-eq46.false
