use Rattle.std.proofs.Common.{◌≡◌, ℕ, List, length, All, None, refl, sym, ap, ◌∙◌, subst, arith}
use Rattle.std.specs.Prelude.{IsSome}
use Rattle.flat_state.specs.Flat.{NamedImage, image_numbered}
use Rattle.flat_process.specs.Images.{images_of}
use Rattle.replay_check.specs.Verdicts.{references_of}
use Rattle.flat_process.proofs.Loading.{images_count, first_numbered}
use Rattle.replay_check.proofs.Following.{start_on}
use Rattle.replay_check.proofs.touching.references.Goals as goal

pub started-requires : goal.started-requires
started-requires c =
    let is : c.as_slice.result.now ≡ images_of c.args.images.now = c.as_slice.ensures.value ∙ c.in_ok-programs.ensures in
    subst (λ (ps : List NamedImage). All (λ (n : ℕ). IsSome (image_numbered ps n)) c.args.first.now) (sym is)
    (first_numbered c.args.images.now c.args.first.now c.requires.images c.requires.first)

pub invariant_of-follower : goal.invariant_of-follower
invariant_of-follower c = record {
  few =
      let is : length c.as_slice-2.result.now ≡ length c.args.images.now =
      ap length (c.as_slice-2.ensures.value ∙ c.in_ok-programs.ensures) ∙ images_count c.args.images.now c.requires.images.images in
      let few = c.requires.images.few in
      omega arith;
}

pub returns : goal.returns
returns c = λ A images first none.
    let loaded : A.images ≡ c.as_slice.result.now = images ∙ sym (c.as_slice.ensures.value ∙ c.in_ok-programs.ensures) in
    let passed : A.images ≡ c.as_slice-2.result.now = images ∙ sym (c.as_slice-2.ensures.value ∙ c.in_ok-programs.ensures) in
    c.follow_all.ensures A (references_of A c.args.entries.now) passed
    (start_on A c.in_ok-machine.machine None c.new.result.items c.args.entries.now none (c.in_ok-machine.ensures A loaded first) refl c.new.ensures.items)
