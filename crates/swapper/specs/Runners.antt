-- The processes among which the swapper chooses, from the machine's records to those of `page_model`.
use Rattle.std.specs.Prelude.{◌≡◌, ℕ, ◌+◌, ◌-◌, ◌&&◌, Bool, false, cond, List, [], ◌∷◌, filter_map, Option, Some, None}
use Rattle.std.specs.List.{range_with_len}
use Rattle.proc_table.specs.declared.process.Proc.{Proc as Record}
use Rattle.proc_table.specs.Records.{find}
use Rattle.page_model.specs.Placement.{Placement}
use Rattle.page_model.specs.Swapper.{Runner, Choice, In, Out, Nothing, since, is_out, is_longer, is_larger, size_in_frames, longest_of, may_come_in, may_go_out}
use Rattle.kernel_model.specs.Kernel.{Kernel, Life, New, HoldsSpace, LendsSpace, Ended, Proc}
use Rattle.kernel_model.specs.Unit.{has_lender}
use Rattle.machine_state.specs.Machine.{proc_of_record, processes_of, residents_of}
use Rattle.swapper.specs.declared.candidates.Seen.{Seen}
use Rattle.swapper.specs.declared.largest.Measured.{Measured}
use Rattle.swapper.specs.declared.largest.Largest.{Largest}
use Rattle.swapper.specs.declared.Turned.{Turned}
use Rattle.swapper.specs.declared.Turned.TheVariants as turns
use Rattle.swapper.specs.declared.candidates.Kind.{Kind}
use Rattle.swapper.specs.declared.candidates.Kind.TheVariants as kinds

-- what the swapper asks of a process that holds a space, among all processes
abbrev pub runner_among : List Proc → Proc → Life → Option Runner
runner_among all q New = None
runner_among all q (HoldsSpace sid) = Some (let r : Runner = record { pid = q.pid; sid = sid; borrowed = has_lender all q.pid; asleep = q.asleep } in r)
runner_among all q (LendsSpace sid child) = None
runner_among all q (Ended status) = None

-- those of these processes that hold a space
abbrev pub runners_in : List Proc → List Runner
runners_in all = filter_map (λ q. runner_among all q q.life) all

-- the processes that hold a space, by rising pid
abbrev pub runners_of : Kernel → List Runner
runners_of k = runners_in k.processes

-- The code's view.

-- a process as the code saw it
abbrev pub runner_seen : Seen → Runner
runner_seen s = record { pid = s.pid; sid = s.sid; borrowed = s.borrowed; asleep = s.asleep }

-- a process as the code saw it, if it saw one
abbrev pub runner_of : Option Seen → Option Runner
runner_of None = None
runner_of (Some s) = Some (runner_seen s)

-- it is out or in, and since that place in the journal, as the placement has it
abbrev pub IsPlaced : Placement → Option Seen → Type 0
IsPlaced p None = Unit {0}
IsPlaced p (Some s) = (s.out ≡ is_out p s.pid) × (s.since ≡ since p (runner_seen s))

-- the residents are those of these records
abbrev pub HasResidents : Placement → List Record → ℕ → Type 0
HasResidents p ps next = p.residents ≡ residents_of ps next

-- the process is a candidate of this kind: to come in, to go out, or to go out asleep
abbrev pub passes : Placement → Kind → Runner → Bool
passes p kinds.ComesIn r = may_come_in p r
passes p kinds.GoesOut r = may_go_out p r
passes p kinds.Sleeper r = may_go_out p r && r.asleep

-- what a process is as a candidate of this kind
abbrev pub kept : (Runner → Bool) → Option Runner → Option Runner
kept test None = None
kept test (Some r) = cond (test r) (Some r) None

-- what the swapper asks of a process, if there is one that holds a space
abbrev pub runner_from : List Proc → Option Proc → Option Runner
runner_from all None = None
runner_from all (Some q) = runner_among all q q.life

-- those above a pid that pass a test
abbrev pub runners_above : (Runner → Bool) → List Record → ℕ → ℕ → List Runner
runners_above test ps next last =
    filter_map (λ n. kept test (runner_from (processes_of ps next) (proc_of_record (find n ps)))) (range_with_len (last + 1) (next - (last + 1)))

-- the one of the two that is in or out longer, the first where they are equally long by name
abbrev pub longer_of : Placement → Option Runner → Runner → Runner
longer_of p None x = x
longer_of p (Some r) x = cond (is_longer p x r) x r

-- one more, where it is there
abbrev pub longer_with : Placement → Option Runner → Option Runner → Option Runner
longer_with p best None = best
longer_with p best (Some x) = Some (longer_of p best x)

-- the one that is in or out longest, of one that was seen and those to come
abbrev pub longest_from : Placement → Option Runner → List Runner → Option Runner
longest_from p None [] = None
longest_from p None (x ∷ xs) = Some (longest_of p x xs)
longest_from p (Some r) xs = Some (longest_of p r xs)

-- The largest.

-- the size is that of the process, and its place is as the placement has it
abbrev pub IsMeasured : Placement → Option Measured → Type 0
IsMeasured p None = Unit {0}
IsMeasured p (Some x) = IsPlaced p (Some x.seen) × (x.size ≡ size_in_frames p (runner_seen x.seen))

-- a runner that stands before another, where there is one
abbrev pub stands_before : Placement → Option Measured → Measured → Bool
stands_before p None x = false
stands_before p (Some y) x = is_larger p (runner_seen y.seen) (runner_seen x.seen)

-- the four largest, the largest first, as far as there are so many
abbrev pub options_of : Largest → List (Option Measured)
options_of l = l.first ∷ l.second ∷ l.third ∷ l.fourth ∷ []

-- each of these, where it is there, has its size and its place
abbrev pub AreMeasured : Placement → List (Option Measured) → Type 0
AreMeasured p [] = Unit {0}
AreMeasured p (o ∷ os) = IsMeasured p o × AreMeasured p os

-- the runners up to the first place that is empty
abbrev pub listed_in : List (Option Measured) → List Runner
listed_in [] = []
listed_in (None ∷ os) = []
listed_in (Some x ∷ os) = runner_seen x.seen ∷ listed_in os

-- each one place on, the last no more
abbrev pub moved_on : Option Measured → List (Option Measured) → List (Option Measured)
moved_on o [] = []
moved_on o (w ∷ os) = o ∷ moved_on w os

-- one more in its place
abbrev pub placed_in : Placement → Measured → List (Option Measured) → List (Option Measured)
placed_in p x [] = []
placed_in p x (o ∷ os) = cond (stands_before p o x) (o ∷ placed_in p x os) (Some x ∷ moved_on o os)

-- one more in its place, where it is there
abbrev pub placed_with : Placement → Option Measured → List (Option Measured) → List (Option Measured)
placed_with p None os = os
placed_with p (Some x) os = placed_in p x os

-- a process whose size the code saw, if it saw one
abbrev pub runner_measured : Option Measured → Option Runner
runner_measured None = None
runner_measured (Some x) = Some (runner_seen x.seen)

-- what the swapper did, as the choice that it made
abbrev pub choice_of : Turned → Choice
choice_of turns.Nothing = Nothing
choice_of (turns.In pid) = In pid
choice_of (turns.Out pid) = Out pid

-- the process that is found goes out; without one nothing is done
abbrev pub out_choice : Option ℕ → Choice
out_choice None = Nothing
out_choice (Some pid) = Out pid

-- the process that is found comes in; without one nothing is done
abbrev pub in_choice : Option ℕ → Choice
in_choice None = Nothing
in_choice (Some pid) = In pid
