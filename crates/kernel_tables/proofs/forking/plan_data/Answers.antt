use Rattle.std.proofs.Common.{ℕ, ◌≡◌, ◌<◌, List, ◌++◌, length, take, Some, slice_get, sym, ap, ◌∙◌, arith}
use Rattle.vm_facts.specs.declared.page.Page.TheVariants.{Data}
use Rattle.vax_pte.specs.declared.Place.{Place}
use Rattle.space_map.specs.Space.{Places, with_place}
use Rattle.kernel_tables.specs.declared.fill.DueFill.{DueFill}
use Rattle.kernel_tables.specs.Forking.{forked, copy_fill, copy_fills}
use Rattle.kernel_tables.proofs.Entries.{data_hit}
use Rattle.kernel_tables.proofs.Forks.{set_taken, fills_taken, never_none}
use Rattle.kernel_tables.proofs.forking.plan_data.Goals as goal

pub unreachable-requires : goal.unreachable-requires
unreachable-requires c =
    let l : c.loop-v.v < length c.args.parent.now.data = omega arith in
    never_none c.args.parent.now.data c.loop-v.v l (sym (data_hit c.args.parent.now c.sid-from.result c.loop-v.v c.sid-from.ensures) ∙ sym c.place.ensures ∙ c.in-None.is)

pub loop-v-preserved : goal.loop-v-preserved
loop-v-preserved c =
    let v : ℕ = c.loop-v.v in
    let s : Places = c.args.child.now in
    let p : Places = c.args.parent.now in
    let x : Place = c.in-Some.place in
    let before : List DueFill = c.args.fills.now.items in
    let at : slice_get p.data v ≡ Some x = sym (data_hit p c.sid-from.result v c.sid-from.ensures) ∙ sym c.place.ensures ∙ c.in-Some.is in
    record {
      child =
          c.plan_page.ensures.child
          ∙ ap (λ (r : Places). with_place r (Data c.sid-sid.result v) (forked x)) c.loop-v.invariant.child
          ∙ ap (λ (xs : List Place). record s { «data» = xs }) (set_taken forked p.data s.data v x at c.requires.size);
      fills =
          c.plan_page.ensures.fills
          ∙ ap (λ (ds : List DueFill). ds ++ copy_fill (Data c.sid-sid.result v) (Data c.sid-from.result v) x) c.loop-v.invariant.fills
          ∙ ap (λ (n : ℕ). (before ++ copy_fills (Data s.sid) (Data p.sid) 0 (take v p.data)) ++ copy_fill (Data n v) (Data c.sid-from.result v) x) c.sid-sid.ensures
          ∙ ap (λ (n : ℕ). (before ++ copy_fills (Data s.sid) (Data p.sid) 0 (take v p.data)) ++ copy_fill (Data s.sid v) (Data n v) x) c.sid-from.ensures
          ∙ fills_taken (Data s.sid) (Data p.sid) p.data v x before at;
      few = omega arith;
      capacity = c.plan_page.ensures.capacity ∙ c.loop-v.invariant.capacity;
    }
