-- How judging ends, by what was read, and what is told of it.
use Rattle.std.proofs.Common.{◌≡◌, ℕ, List, [], Option, Some, None, Result, Ok, Err, sym, ap, ◌∙◌, subst}
use Rattle.flat_state.specs.Flat.{Inputs}
use Rattle.paged_model.specs.declared.line.Line.{Line}
use Rattle.command_edge.specs.ImageWords.{image_names, first_images}
use Rattle.command_words.specs.declared.command.Numbers.{Numbers}
use Rattle.command_edge.specs.declared.fault.Fault.{Fault}
use Rattle.command_edge.specs.declared.fault.Fault.TheVariants as faults
use Rattle.command_edge.specs.Ending.{Ending}
use Rattle.command_edge.specs.Command.{Faults, NoFaults, EndCounted}
use Rattle.replay_command.specs.Reading.{Read}
use Rattle.question_command.specs.InMemory.{inputs_with}
use Rattle.repage_check.specs.Verdicts.{HasMisstep}
use Rattle.repage_command.specs.declared.judging.Repaged.{Repaged}
use Rattle.repage_command.specs.declared.reading.Case.{Case}
use Rattle.repage_command.specs.Telling.{paged_line}
use Rattle.repage_command.specs.Reading.{LacksCase, HasCase, inputs_of}
use Rattle.repage_command.specs.Judging.{TellsMisstep, TellsBad, TellsRepaged, EndsRepaging, why_if, IsRepageEnding, TellsOwners, EndsOwning}
use Rattle.repage_command.specs.Command.{IsSoOfLines, LacksPlace, LacksVerdict, EndsReading, EndsRepage, FrontFailsAt, EndsOwners}
use Rattle.repage_command.specs.Explaining.{TellsWhy}

-- what is so of the inputs of a case and of its lines, is so of what was read
so_of_case : (numbers : Numbers) (words : List (List ℕ)) (read : Read) (case : Case) (So : Inputs → List Line → Type 0) → HasCase words read case
    → So (inputs_of numbers case) case.lines.items → IsSoOfLines numbers words read So
so_of_case numbers words read case So has so = record {
  lines = case.lines.items;
  has = has.lines;
  images = case.images.items;
  are = has.images;
  so = subst (λ (ns : List ℕ). So (inputs_with numbers case.images.items ns []) case.lines.items) has.first so;
}

-- a fault of what is read is the command's
pub case_fault : (numbers : Numbers) (name : List ℕ) (words : List (List ℕ)) (read : Read) (f : Faults) (fault : Fault) → LacksCase name read f fault
    → LacksVerdict numbers name words read f fault
case_fault numbers name words read f (faults.NoSpace pid) lacks = absurd lacks
case_fault numbers name words read f _ lacks = lacks

-- Judging.

pub repaging_ends : (numbers : Numbers) (name : List ℕ) (words : List (List ℕ)) (read : Read) (f : Faults) (case : Case) (result : Result Repaged Fault)
    → NoFaults f → HasCase words read case → EndsRepaging (inputs_of numbers case) case.lines.items result
    → EndsReading numbers name words read f result
repaging_ends numbers name words read f case (Ok repaged) none has ends = (none, so_of_case numbers words read case (λ A ls. TellsRepaged A ls repaged) has ends)
repaging_ends numbers name words read f case (Err faults.NoMemory) none has ends = tt
repaging_ends numbers name words read f case (Err (faults.NoSpace pid)) none has ends = (none, so_of_case numbers words read case (LacksPlace pid) has ends)
repaging_ends numbers name words read f case (Err _) none has ends = absurd ends

pub repaging_counted : (A : Inputs) (ls : List Line) (f : Faults) (result : Result Repaged Fault) → NoFaults f → EndsRepaging A ls result → EndCounted result f
repaging_counted A ls f (Ok repaged) none ends = none
repaging_counted A ls f (Err faults.NoMemory) none ends = none
repaging_counted A ls f (Err (faults.NoSpace pid)) none ends = none
repaging_counted A ls f (Err _) none ends = absurd ends

-- The verdict.

pub verdict_ends : (numbers : Numbers) (name : List ℕ) (words : List (List ℕ)) (read : Read) (f : Faults) (repaged : Repaged) (ending : Ending)
    → EndsReading numbers name words read f (Ok repaged) → IsRepageEnding repaged ending → EndsRepage numbers name words read f ending
verdict_ends numbers name words read f repaged (Ok output) read_so is =
    let so = read_so.1 in
    let tells : TellsRepaged (inputs_with numbers so.images (first_images (image_names words) words) []) so.lines repaged = so.so in (
      read_so.0,
      record {
        lines = so.lines;
        has = so.has;
        images = so.images;
        are = so.are;
        so = (
          subst (λ (b : Option ℕ). TellsBad (inputs_with numbers so.images (first_images (image_names words) words) []) so.lines b repaged.why.items) is.0 tells.bad,
          is.1 ∙ ap paged_line tells.count,
        );
      },
    )
verdict_ends numbers name words read f repaged (Err faults.NoMemory) read_so is = tt
verdict_ends numbers name words read f repaged (Err (faults.NotPaged line)) read_so is =
    let so = read_so.1 in
    let A = inputs_with numbers so.images (first_images (image_names words) words) [] in
    let tells : TellsRepaged A so.lines repaged = so.so in
    let bad : TellsMisstep A so.lines line repaged.why.items = subst (λ (b : Option ℕ). TellsBad A so.lines b repaged.why.items) is tells.bad in
    let has : HasMisstep A so.lines bad.misstep = record { holdings = bad.holdings; found = bad.found; first = bad.first } in
    (read_so.0, record { lines = so.lines; has = so.has; images = so.images; are = so.are; so = (bad.misstep, has, bad.same) })
verdict_ends numbers name words read f repaged (Err _) read_so is = absurd is

pub verdict_counted : (repaged : Repaged) (f : Faults) (ending : Ending) → NoFaults f → IsRepageEnding repaged ending → EndCounted ending f
verdict_counted repaged f (Ok output) none is = none
verdict_counted repaged f (Err faults.NoMemory) none is = none
verdict_counted repaged f (Err (faults.NotPaged line)) none is = none
verdict_counted repaged f (Err _) none is = absurd is

-- a fault for which there is no verdict is how the command ends
pub fault_ends : (numbers : Numbers) (name : List ℕ) (words : List (List ℕ)) (read : Read) (f : Faults) (fault : Fault)
    → LacksVerdict numbers name words read f fault → EndsRepage numbers name words read f (Err fault)
fault_ends numbers name words read f (faults.NotPaged line) lacks = absurd lacks
fault_ends numbers name words read f _ lacks = lacks

-- The reason.

pub why_told : (numbers : Numbers) (words : List (List ℕ)) (read : Read) (repaged : Repaged) (text : Option (List ℕ))
    → IsSoOfLines numbers words read (λ A ls. TellsRepaged A ls repaged) → text ≡ why_if repaged.bad repaged.why.items
    → IsSoOfLines numbers words read (TellsWhy text)
why_told numbers words read repaged text so is = record {
  lines = so.lines;
  has = so.has;
  images = so.images;
  are = so.are;
  so = let tells : TellsRepaged (inputs_with numbers so.images (first_images (image_names words) words) []) so.lines repaged = so.so in
      subst (λ (t : Option (List ℕ)). TellsWhy t (inputs_with numbers so.images (first_images (image_names words) words) []) so.lines) (sym is)
      (told (inputs_with numbers so.images (first_images (image_names words) words) []) so.lines repaged.bad tells.bad);
}
  where
    told : (A : Inputs) (ls : List Line) (bad : Option ℕ) → TellsBad A ls bad repaged.why.items → TellsWhy (why_if bad repaged.why.items) A ls
    told A ls None tells = tells
    told A ls (Some line) tells = (line, tells)

-- Who owns what.

pub owning_ends : (wanted : ℕ) (numbers : Numbers) (name : List ℕ) (words : List (List ℕ)) (read : Read) (f : Faults) (case : Case) (ending : Ending)
    → NoFaults f → HasCase words read case → EndsOwning (inputs_of numbers case) case.lines.items wanted ending
    → EndsOwners wanted numbers name words read f ending
owning_ends wanted numbers name words read f case (Ok text) none has ends = (none, so_of_case numbers words read case (λ A ls. TellsOwners A ls wanted text) has ends)
owning_ends wanted numbers name words read f case (Err faults.NoMemory) none has ends = tt
owning_ends wanted numbers name words read f case (Err (faults.NoSpace pid)) none has ends = (none, so_of_case numbers words read case (LacksPlace pid) has ends)
owning_ends wanted numbers name words read f case (Err (faults.NotPaged line)) none has ends = (none, so_of_case numbers words read case (FrontFailsAt wanted line) has ends)
owning_ends wanted numbers name words read f case (Err _) none has ends = absurd ends

pub owning_counted : (A : Inputs) (ls : List Line) (wanted : ℕ) (f : Faults) (ending : Ending) → NoFaults f → EndsOwning A ls wanted ending
    → EndCounted ending f
owning_counted A ls wanted f (Ok text) none ends = none
owning_counted A ls wanted f (Err faults.NoMemory) none ends = none
owning_counted A ls wanted f (Err (faults.NoSpace pid)) none ends = none
owning_counted A ls wanted f (Err (faults.NotPaged line)) none ends = none
owning_counted A ls wanted f (Err _) none ends = absurd ends

pub owners_fault : (wanted : ℕ) (numbers : Numbers) (name : List ℕ) (words : List (List ℕ)) (read : Read) (f : Faults) (fault : Fault)
    → LacksCase name read f fault → EndsOwners wanted numbers name words read f (Err fault)
owners_fault wanted numbers name words read f (faults.NotPaged line) lacks = absurd lacks
owners_fault wanted numbers name words read f (faults.NoSpace pid) lacks = absurd lacks
owners_fault wanted numbers name words read f _ lacks = lacks
