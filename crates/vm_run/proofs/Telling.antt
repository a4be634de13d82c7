-- What words do where files and a swap image are told.
use Rattle.std.proofs.Common.{◌≡◌, ◌∙◌, ℕ, List, [], ◌++◌, Option, Some, None, ap, subst}
use Rattle.vm_facts.specs.SwapImages.{SwapImage}
use Rattle.io_edge.specs.FileRequests.{no_notes}
use Rattle.io_edge.specs.FileHolding.{NamedFile}
use Rattle.command_words.specs.Asked.{Request, Asked, Run, Load, Replay, Assemble, Show, Optimum, Curve, Owners, Film, Stats, References, Grade, Repage, RepageOwners, Policies}
use Rattle.command_edge.specs.Ending.{Ending as CommandEnding}
use Rattle.command_edge.specs.Command.{Faults, Writes, Completes}
use Rattle.run_text.specs.Text.{text_of}
use Rattle.io_edge.specs.Octets.{AreOctetFiles}
use Rattle.question_command.specs.Headlines.{Says}
use Rattle.question_command.specs.RunCommandEnds.{ending_line, run_status}
use Rattle.question_command.specs.Seen.{Seen}
use Rattle.question_command.specs.Paired.{image_together}
use Rattle.vm_run.specs.Obeying.{Obeys}
use Rattle.vm_run.specs.Headline.{CarriesFor}
use Rattle.vm_run.specs.InMemory.{blank_pair, none_failed, seen_of, CompletesTold, ObeysTold, HeadlineInMemory}

completes_told : {R : Type 0} (Ends : R → Faults → CommandEnding → Type 0) (told : List NamedFile → R) (seen : Seen) (files : List NamedFile) (status : ℕ)
    → seen.files ≡ Some files
    → Completes Ends told seen.files seen.faults seen.written_before seen.written_after seen.sink_faults_before seen.sink_faults_after status
    → CompletesTold Ends (told files) seen status
completes_told {R} Ends told seen files status is x = record {
  ending = x.ending;
  ends = subst (λ (read : R). Ends read seen.faults x.ending) (x.made.is_told files is) x.made.ends;
  writes = x.writes;
}

pub obeys_told : (asked : Option Asked) (seen : Seen) (files : List NamedFile) (image : SwapImage) (status : ℕ) → seen.files ≡ Some files → AreOctetFiles files
    → seen.swap_before ≡ Some image
    → Obeys asked seen status → ObeysTold asked seen files image status
obeys_told None seen files image status is octets swap x = x
obeys_told (Some (Run traced numbers schedule images)) seen files image status is octets swap x =
    record { ending = x.ending; journal = x.journal; writes = x.writes; within = x.within; caused = x.caused; judged = x.judged files is; told = x.told files image is octets swap }
obeys_told (Some (Load number)) seen files image status is octets swap x =
    record { ending = x.ending; journal = x.journal; writes = x.writes; within = x.within; caused = x.caused; told = x.told image swap; counted = x.counted image swap }
obeys_told (Some (Replay transcript images)) seen files image status is octets swap x = completes_told _ _ seen files status is x
obeys_told (Some (Assemble source)) seen files image status is octets swap x = completes_told _ _ seen files status is x
obeys_told (Some (Show name)) seen files image status is octets swap x = completes_told _ _ seen files status is x
obeys_told (Some (Optimum size numbers schedule images)) seen files image status is octets swap x = completes_told _ _ seen files status is x
obeys_told (Some (Curve numbers schedule images)) seen files image status is octets swap x = completes_told _ _ seen files status is x
obeys_told (Some (Owners entries numbers schedule images)) seen files image status is octets swap x = completes_told _ _ seen files status is x
obeys_told (Some (Film steps numbers schedule images)) seen files image status is octets swap x = completes_told _ _ seen files status is x
obeys_told (Some (Stats numbers schedule images)) seen files image status is octets swap x = completes_told _ _ seen files status is x
obeys_told (Some (References numbers schedule images)) seen files image status is octets swap x = completes_told _ _ seen files status is x
obeys_told (Some (Grade numbers schedule trace images)) seen files image status is octets swap x = completes_told _ _ seen files status is x
obeys_told (Some (Repage numbers trace images)) seen files image status is octets swap x = completes_told _ _ seen files status is x
obeys_told (Some (RepageOwners entries numbers trace images)) seen files image status is octets swap x = completes_told _ _ seen files status is x
obeys_told (Some (Policies comparison references)) seen files image status is octets swap x = completes_told _ _ seen files status is x

-- What is seen where files and devices are in memory.
pub same_seen : (files : Option (List NamedFile)) (list : List NamedFile) (zb ob zero_blocks one_blocks : ℕ) (before after swap : Option SwapImage)
    (empty written : Option (List ℕ)) (none faults : ℕ) → files ≡ Some list
    → zb ≡ zero_blocks → ob ≡ one_blocks → before ≡ Some (blank_pair zero_blocks one_blocks) → after ≡ swap → empty ≡ Some [] → none ≡ 0
    → (
    let seen : Seen = record {
      files = files;
      faults = record { open_before = 0; open_after = 0; page_before = 0; page_after = 0 };
      notes_before = no_notes;
      notes_after = no_notes;
      zero_blocks = zb;
      one_blocks = ob;
      swap_before = before;
      swap_after = after;
      reads = record { zero_before = 0; zero_after = 0; one_before = 0; one_after = 0 };
      writes = record { zero_before = 0; zero_after = 0; one_before = 0; one_after = 0 };
      written_before = empty;
      written_after = written;
      sink_faults_before = none;
      sink_faults_after = faults;
    } in seen)
    ≡ seen_of list zero_blocks one_blocks swap written faults
same_seen files list zb ob zero_blocks one_blocks before after swap empty written none faults f z o b a e n = cc

-- The swap image of two devices whose blocks and images are known.
pub together : (zb ob zero_blocks one_blocks : ℕ) (i j zero one : Option SwapImage) → zb ≡ zero_blocks → ob ≡ one_blocks → i ≡ zero → j ≡ one
    → image_together zb ob i j ≡ image_together zero_blocks one_blocks zero one
together zb ob zero_blocks one_blocks i j zero one zs os is js =
    ap (λ (k : ℕ). image_together k ob i j) zs
    ∙ ap (λ (k : ℕ). image_together zero_blocks k i j) os
    ∙ ap (λ (x : Option SwapImage). image_together zero_blocks one_blocks x j) is
    ∙ ap (λ (x : Option SwapImage). image_together zero_blocks one_blocks zero x) js

-- The headline, where all is told.
pub headline_told : (asked : Option Request) (files : Option (List NamedFile)) (list : List NamedFile)
    (zero one : Option SwapImage) (zero_image one_image : SwapImage)
    (zb ob zero_blocks one_blocks : ℕ) (empty written : Option (List ℕ)) (none faults status : ℕ) → files ≡ Some list → AreOctetFiles list
    → zero ≡ Some zero_image → one ≡ Some one_image → zb ≡ zero_blocks → ob ≡ one_blocks → empty ≡ Some [] → none ≡ 0
    → CarriesFor asked files zero one zb ob empty written none faults none_failed status → HeadlineInMemory asked list zero_blocks one_blocks written faults status
headline_told None files list zero one zero_image one_image zb ob zero_blocks one_blocks empty written none faults status f octets z o zs os e n c = tt
headline_told (Some request) files list zero one zero_image one_image zb ob zero_blocks one_blocks empty written none faults status f octets z o zs os e n c = record {
  journal = c.journal;
  ending = c.ending;
  writes = subst (λ (k : ℕ). Writes (Some []) written k faults (text_of request.traced c.journal ++ ending_line c.ending) (run_status c.ending) status) n
      (subst (λ (b : Option (List ℕ)). Writes b written none faults (text_of request.traced c.journal ++ ending_line c.ending) (run_status c.ending) status) e c.writes);
  failed = c.failed;
  says = subst (λ (k : ℕ). Says request list k one_blocks none_failed.files c.journal c.ending) zs
      (subst (λ (k : ℕ). Says request list zb k none_failed.files c.journal c.ending) os (c.told list zero_image one_image f octets z o));
}
