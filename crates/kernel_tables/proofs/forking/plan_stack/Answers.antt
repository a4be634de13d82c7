use Rattle.std.proofs.Common.{ℕ, ◌≡◌, ◌<◌, List, ◌++◌, length, take, Some, slice_get, sym, ap, ◌∙◌, arith}
use Rattle.vm_facts.specs.declared.page.Page.TheVariants.{Stack}
use Rattle.vax_pte.specs.declared.Place.{Place}
use Rattle.space_map.specs.Space.{Places, with_place}
use Rattle.kernel_tables.specs.declared.fill.DueFill.{DueFill}
use Rattle.kernel_tables.specs.Forking.{forked, copy_fill, copy_fills}
use Rattle.kernel_tables.proofs.Entries.{stack_hit}
use Rattle.kernel_tables.proofs.Forks.{set_taken, fills_taken, never_none}
use Rattle.kernel_tables.proofs.forking.plan_stack.Goals as goal

pub unreachable-requires : goal.unreachable-requires
unreachable-requires c =
    let l : c.loop-v.v < length c.args.parent.now.stack = omega arith in
    never_none c.args.parent.now.stack c.loop-v.v l (sym (stack_hit c.args.parent.now c.sid-from.result c.loop-v.v c.sid-from.ensures) ∙ sym c.place.ensures ∙ c.in-None.is)

pub loop-v-preserved : goal.loop-v-preserved
loop-v-preserved c =
    let v : ℕ = c.loop-v.v in
    let s : Places = c.args.child.now in
    let p : Places = c.args.parent.now in
    let x : Place = c.in-Some.place in
    let before : List DueFill = c.args.fills.now.items in
    let at : slice_get p.stack v ≡ Some x = sym (stack_hit p c.sid-from.result v c.sid-from.ensures) ∙ sym c.place.ensures ∙ c.in-Some.is in
    record {
      child =
          c.plan_page.ensures.child
          ∙ ap (λ (r : Places). with_place r (Stack c.sid-sid.result v) (forked x)) c.loop-v.invariant.child
          ∙ ap (λ (xs : List Place). record s { stack = xs }) (set_taken forked p.stack s.stack v x at c.requires.size);
      fills =
          c.plan_page.ensures.fills
          ∙ ap (λ (ds : List DueFill). ds ++ copy_fill (Stack c.sid-sid.result v) (Stack c.sid-from.result v) x) c.loop-v.invariant.fills
          ∙ ap (λ (n : ℕ). (before ++ copy_fills (Stack s.sid) (Stack p.sid) 0 (take v p.stack)) ++ copy_fill (Stack n v) (Stack c.sid-from.result v) x) c.sid-sid.ensures
          ∙ ap (λ (n : ℕ). (before ++ copy_fills (Stack s.sid) (Stack p.sid) 0 (take v p.stack)) ++ copy_fill (Stack s.sid v) (Stack n v) x) c.sid-from.ensures
          ∙ fills_taken (Stack s.sid) (Stack p.sid) p.stack v x before at;
      few = omega arith;
      capacity = c.plan_page.ensures.capacity ∙ c.loop-v.invariant.capacity;
    }
