use Rattle.std.proofs.Common.{◌≡◌, ◌+◌, ◌≤◌, ◌++◌, map, take, drop}
use Rattle.std.specs.VecDeque.{deque_len, deque_capacity}
use Rattle.vm_facts.specs.declared.page.Page.TheVariants.{Stack}
use Rattle.kernel_tables.specs.Forking.{forked, copy_fills}
use Rattle.kernel_tables.proofs.forking.plan_stack.Given as goal

abbrev pub invariant-loop-v : goal.invariant-loop-v
invariant-loop-v l = record {
  child : l.child ≡ record l.fn.child { stack = map forked (take l.v l.parent.stack) ++ drop l.v l.fn.child.stack };
  fills : l.fills.items ≡ l.fn.fills.items ++ copy_fills (Stack l.fn.child.sid) (Stack l.parent.sid) 0 (take l.v l.parent.stack);
  few : deque_len l.fills ≤ deque_len l.fn.fills + l.v;
  capacity : deque_capacity l.fills ≡ deque_capacity l.fn.fills;
}
