-- What a call in memory with status 0 wrote, where its words ask for a run.
use Rattle.std.proofs.Common.{◌≡◌, ◌⊎◌, ◌<◌, ℕ, Bool, true, false, List, [], ◌∷◌, ◌++◌, Option, Some, None, Result, Ok, Err, refl, sym, ap, ◌∙◌, subst, arith}
use Rattle.std.proofs.lemmas.List.{append-nil}
use Rattle.vm_facts.specs.declared.entry.Entry.{Entry}
use Rattle.io_edge.specs.FileHolding.{NamedFile}
use Rattle.flat_state.specs.Flat.{NamedImage, Inputs, can_step}
use Rattle.flat_model.specs.Run.{Point, flat_run}
use Rattle.run_text.specs.Text.{text_of}
use Rattle.command_edge.specs.ImageWords.{image_names, first_images}
use Rattle.command_edge.specs.Command.{Writes, All, Prefix}
use Rattle.command_edge.specs.Named.{Why}
use Rattle.command_edge.proofs.Statuses.{status_is_not_0}
use Rattle.run_opening.specs.Images.{images_found}
use Rattle.command_words.specs.Asked.{Request}
use Rattle.vm_run.specs.RunHeadline.{last_snapshot}
use Rattle.vm_run.specs.Headlines.{Says}
use Rattle.vm_run.specs.RunCommandEnds.{RunEnding, ending_line, run_status}
use Rattle.vm_run.specs.InMemory.{none_failed, HeadlineTold, HeadlineInMemory}
use Rattle.flat_laws.specs.Visible.{visible_of, has_end, IsSingle, Begins}
use Rattle.flat_laws.specs.Agreement.{IsPair}
use Rattle.flat_laws.proofs.Pairs.{visible_agrees, over_is_all, both_over, end_is_last}
use Rattle.vmrun_callers.specs.Unseen.{StartAlike, IsServedAlone, WroteAlike, PagingIsUnseen}

-- the text of a run of the flat machine was written, whose images are those that the words name
record IsWritten (words : List (List ℕ)) (files : List NamedFile) (traced : Bool) (written : Option (List ℕ)) : Type 0 where
  pub inputs : Inputs
  pub journal : List Entry
  pub point : Point
  pub images : images_found files (image_names words) ≡ Ok inputs.images
  pub first : inputs.first ≡ first_images (image_names words) words
  pub runs : flat_run inputs journal ≡ Some point
  pub wrote : written ≡ Some (text_of traced journal)

-- the headline of a run that ended with status 0
run_written : (request : Request) (files : List NamedFile) (zero_blocks one_blocks : ℕ) (written : Option (List ℕ)) (faults status : ℕ)
    → HeadlineTold request files zero_blocks one_blocks written faults status → status ≡ 0 → IsWritten request.words files request.traced written
run_written request files zero_blocks one_blocks written faults status headline zero = go headline.ending headline.writes headline.says
  where
    go : (ending : RunEnding) → Writes (Some []) written 0 faults (text_of request.traced headline.journal ++ ending_line ending) (run_status ending) status
        → Says request files zero_blocks one_blocks none_failed.files headline.journal ending → IsWritten request.words files request.traced written
    go (Ok done) (All whole appends none) says = record {
      inputs = says.inputs;
      journal = headline.journal;
      point = (last_snapshot says.inputs says.so.headline.holdings headline.journal).point;
      images = says.asks.images;
      first = says.asks.first;
      runs = says.so.headline.flat;
      wrote = appends ∙ ap (λ (text : List ℕ). Some text) (append-nil (text_of request.traced headline.journal));
    }
    go (Ok done) (Prefix whole appends rose) says = absurd (omega (arith, whole, zero))
    go (Err fault) (All whole appends none) says = absurd (status_is_not_0 fault (sym whole ∙ zero))
    go (Err fault) (Prefix whole appends rose) says = absurd (omega (arith, whole, zero))

asked_written : (asked : Option Request) (files : List NamedFile) (zero_blocks one_blocks : ℕ) (written : Option (List ℕ))
    (faults status : ℕ) (request : Request)
    → asked ≡ Some request → HeadlineInMemory asked files zero_blocks one_blocks written faults status
    → status ≡ 0 → IsWritten request.words files request.traced written
asked_written asked files zero_blocks one_blocks written faults status request is headline zero =
    run_written request files zero_blocks one_blocks written faults status
    (subst (λ (a : Option Request). HeadlineInMemory a files zero_blocks one_blocks written faults status) is headline) zero

pub same_images : (xs ys : List NamedImage) → ◌≡◌ {A = Result (List NamedImage) Why} (Ok xs) (Ok ys) → xs ≡ ys
same_images xs ys h = cc

pair : (words : List (List ℕ)) (files others : List NamedFile) (traced also_traced : Bool) (written beside : Option (List ℕ))
    (one : IsWritten words files traced written)
    (two : IsWritten words others also_traced beside) → StartAlike words files others → IsServedAlone one.journal → IsServedAlone two.journal
    → IsPair one.inputs two.inputs one.journal two.journal one.point two.point
pair words files others traced also_traced written beside one two alike alone also = record {
  images = same_images two.inputs.images one.inputs.images (sym two.images ∙ alike.images ∙ one.images);
  first = two.first ∙ sym one.first;
  one = record { image = alike.image; first = one.first ∙ alike.first; runs = one.runs; childless = alone.childless; served = alone.served };
  two = record { image = alike.image; first = two.first ∙ alike.first; runs = two.runs; childless = also.childless; served = also.served };
}

wrote_alike : (words : List (List ℕ)) (files others : List NamedFile) (traced also_traced : Bool) (written beside : Option (List ℕ))
    → IsWritten words files traced written
    → IsWritten words others also_traced beside → StartAlike words files others → WroteAlike traced also_traced written beside
wrote_alike words files others traced also_traced written beside one two alike = record {
  journal = one.journal;
  other = two.journal;
  wrote = one.wrote;
  also_wrote = two.wrote;
  agree = λ alone also. visible_agrees one.inputs two.inputs one.journal two.journal one.point two.point (both alone also);
  ends = λ alone also end. over_is_all one.inputs two.inputs one.journal two.journal one.point two.point (both alone also) (over alone also end);
  same = λ alone also end done.
      (both_over one.inputs two.inputs one.journal two.journal one.point two.point (both alone also) (over alone also end) (over_too alone also done)).visible;
}
  where
    both : (alone : IsServedAlone one.journal) → (also : IsServedAlone two.journal) → IsPair one.inputs two.inputs one.journal two.journal one.point two.point
    both alone also = pair words files others traced also_traced written beside one two alike alone also

    over : IsServedAlone one.journal → IsServedAlone two.journal → has_end (visible_of one.journal) ≡ true → can_step one.point.flat 1 ≡ false
    over alone also end = end_is_last one.inputs one.journal one.point (both alone also).one end

    over_too : IsServedAlone one.journal → IsServedAlone two.journal → has_end (visible_of two.journal) ≡ true → can_step two.point.flat 1 ≡ false
    over_too alone also end = end_is_last two.inputs two.journal two.point (both alone also).two end

-- two calls in memory: what they wrote is alike
pub paging_is_unseen : (asked : Option Request) (files : List NamedFile) (zero_blocks one_blocks : ℕ) (written : Option (List ℕ)) (faults status : ℕ)
    (also_asked : Option Request) (others : List NamedFile) (also_zero_blocks also_one_blocks : ℕ) (beside : Option (List ℕ)) (also_faults also_status : ℕ)
    → HeadlineInMemory asked files zero_blocks one_blocks written faults status
    → HeadlineInMemory also_asked others also_zero_blocks also_one_blocks beside also_faults also_status
    → PagingIsUnseen asked files status written also_asked others also_status beside
paging_is_unseen asked files zero_blocks one_blocks written faults status also_asked others also_zero_blocks also_one_blocks beside also_faults also_status headline also =
    λ one two is also_is same alike none also_none.
    wrote_alike one.words files others one.traced two.traced written beside
    (asked_written asked files zero_blocks one_blocks written faults status one is headline none)
    (subst (λ (words : List (List ℕ)). IsWritten words others two.traced beside) same
    (asked_written also_asked others also_zero_blocks also_one_blocks beside also_faults also_status two also_is also also_none))
    alike
