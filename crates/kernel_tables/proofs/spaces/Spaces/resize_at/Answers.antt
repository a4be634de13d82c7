use Rattle.std.proofs.Common.{◌≡◌, ◌<◌, ◌∙◌, ℕ, List, length, set, Ok, Err, OnOk, OnErr, sym, ap, subst}
use Rattle.space_map.specs.Space.{Places}
use Rattle.kernel_tables.specs.Rising.{AreRising}
use Rattle.kernel_tables.specs.Sizes.{with_sizes, with_sizes_at}
use Rattle.kernel_tables.proofs.ResizedMaps.{sizes_set, number_kept}
use Rattle.kernel_tables.proofs.spaces.Spaces.resize_at.Goals as goal

pub invariant_of-self : goal.invariant_of-self
invariant_of-self c =
    let maps : List Places = c.self.inside.maps.items in
    let was : Places = c.index_mut.result.now in
    let now : Places = c.resize.new.self in
    let in_range : c.args.index < length maps = subst (λ (ss : List Places). c.args.index < length ss) (sym c.self.view_is) c.requires.in_range in
    let same : now.sid ≡ was.sid =
    elim c.resize.result as (λ r. OnOk r (now ≡ with_sizes c.args.data_pages c.args.stack_pages was) → OnErr r (now ≡ was) → now.sid ≡ was.sid) [
      | Ok v ↦ λ ok err. ap (λ (x : Places). x.sid) ok
      | Err e ↦ λ ok err. ap (λ (x : Places). x.sid) err
    ] c.resize.ensures.ok c.resize.ensures.err in
    subst AreRising (sym (number_kept maps c.args.index was now in_range (same ∙ ap (λ (x : Places). x.sid) c.index_mut.ensures.value))) c.self.invariant

pub returns-clause-ok : goal.returns-clause-ok
returns-clause-ok c =
    let maps : List Places = c.self.inside.maps.items in
    let was : Places = c.index_mut.result.now in
    let now : Places = c.resize.new.self in
    let d : ℕ = c.args.data_pages in
    let s : ℕ = c.args.stack_pages in
    let in_range : c.args.index < length maps = subst (λ (ss : List Places). c.args.index < length ss) (sym c.self.view_is) c.requires.in_range in
    elim c.resize.result as (λ r. OnOk r (now ≡ with_sizes d s was) → OnOk r (set maps c.args.index now ≡ with_sizes_at c.args.self.now c.args.index d s)) [
      | Ok v ↦ λ ok. ap (set maps c.args.index) (ok ∙ ap (with_sizes d s) c.index_mut.ensures.value) ∙ sizes_set maps c.args.index d s was in_range
          ∙ ap (λ (ss : List Places). with_sizes_at ss c.args.index d s) c.self.view_is
      | Err e ↦ λ ok. tt
    ] c.resize.ensures.ok
