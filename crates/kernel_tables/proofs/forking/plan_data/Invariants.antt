use Rattle.std.proofs.Common.{◌≡◌, ◌+◌, ◌≤◌, ◌++◌, map, take, drop}
use Rattle.std.specs.VecDeque.{deque_len, deque_capacity}
use Rattle.vm_facts.specs.declared.page.Page.TheVariants.{Data}
use Rattle.kernel_tables.specs.Forking.{forked, copy_fills}
use Rattle.kernel_tables.proofs.forking.plan_data.Given as goal

abbrev pub invariant-loop-v : goal.invariant-loop-v
invariant-loop-v l = record {
  child : l.child ≡ record l.fn.child { «data» = map forked (take l.v l.parent.data) ++ drop l.v l.fn.child.data };
  fills : l.fills.items ≡ l.fn.fills.items ++ copy_fills (Data l.fn.child.sid) (Data l.parent.sid) 0 (take l.v l.parent.data);
  few : deque_len l.fills ≤ deque_len l.fn.fills + l.v;
  capacity : deque_capacity l.fills ≡ deque_capacity l.fn.fills;
}
