use Rattle.std.proofs.Common.{ℕ, ◌-◌, ap, ◌∙◌}
use Rattle.std.specs.Prelude.{slice_index_or}
use Rattle.machine_state.specs.Machine.{image_shown}
use Rattle.proc_calls.specs.Starting.{three_wants}
use Rattle.machine_state.specs.Applying.{facts_named}
use Rattle.machine_state.proofs.AddedImage.{sound_number}
use Rattle.proc_calls.proofs.Spaces.{named_there, facts_of_named}
use Rattle.proc_calls.proofs.starting.next_wants.Goals as goal

pub image_wants-requires : goal.image_wants-requires
image_wants-requires c =
    let n = image_shown (slice_index_or c.images.result.now (c.args.image - 1) c.index-images-image.result) in
    sound_number (facts_named c.args.m.now.images) c.args.image n.facts c.requires.running.images
    (facts_of_named c.args.m.now.images c.args.image n
    (named_there c.args.m.now.images c.images.result.now c.args.image c.index-images-image.result c.images.ensures c.requires.above c.requires.within))

pub returns : goal.returns
returns c = record {
  named = image_shown (slice_index_or c.images.result.now (c.args.image - 1) c.index-images-image.result);
  is = named_there c.args.m.now.images c.images.result.now c.args.image c.index-images-image.result c.images.ensures c.requires.above c.requires.within;
  are = c.image_wants.ensures
      ∙ ap (λ (sid : ℕ). three_wants sid c.args.image (slice_index_or c.images.result.now (c.args.image - 1) c.index-images-image.result).facts) c.next_numbers.ensures.space;
}
