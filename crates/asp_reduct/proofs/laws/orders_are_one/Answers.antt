use Rattle.asp_reduct.proofs.Orders as orders
use Rattle.asp_reduct.proofs.laws.orders_are_one.Goals as goal

pub returns : goal.returns
returns c = orders.orders_are_one
