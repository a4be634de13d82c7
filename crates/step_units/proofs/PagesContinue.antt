-- Machines that go on after accesses that were served.
use Rattle.std.proofs.Common.{◌≡◌, ℕ, ◌-◌, List, [], Option, sym, subst}
use Rattle.vm_facts.specs.SwapImages.{SwapImage}
use Rattle.vm_facts.specs.declared.page.Page.{Page}
use Rattle.vm_facts.specs.declared.page.Page.TheVariants.{Stack}
use Rattle.vm_facts.specs.declared.entry.Entry.TheVariants as entries
use Rattle.io_edge.specs.FileHolding.{NamedFile}
use Rattle.machine_state.specs.Machine.{Standing}
use Rattle.swapper.specs.Made.{ground}
use Rattle.proc_calls.specs.FaultFillAccessAccess.{Access}
use Rattle.proc_calls.specs.FaultFillAccessAccess.TheVariants as accesses
use Rattle.proc_calls.specs.Served.{Served}
use Rattle.proc_calls.specs.Served.TheVariants as served
use Rattle.proc_calls.specs.Growth.{growth, Grown}
use Rattle.proc_calls.specs.Touches.{PageComesNow, TouchedAs, TouchedNow, GrownFirst, AccessComes}
use Rattle.proc_calls.specs.Callers.{IsCaller}
use Rattle.step_units.specs.Ready.{Continues}
use Rattle.step_units.proofs.Running.{continues_self, continues_both, units_continue}
use Rattle.step_units.proofs.Entries.{found_continues, note_continues}

-- A page.

touched_on : (answer : Served) (q : Page) (old new : Standing) (holds : Option (List NamedFile)) (i j : Option SwapImage) → old.kernel.place.due ≡ []
    → TouchedAs answer q old new holds i j → Continues old new 0
touched_on answer q old new holds i j r p =
    units_continue (ground old holds []) p.serves.0.serves.units old new i j r p.serves.0.serves.makes p.low

page_now_on : (locked : List Page) (q : Page) (old new : Standing) (holds : Option (List NamedFile)) (i j : Option SwapImage) → old.kernel.place.due ≡ []
    → PageComesNow locked q old new holds i j
    → Continues old new 0
page_now_on locked q old new holds i j r p =
    units_continue (ground old holds locked) p.serves.0.serves.units old new i j r p.serves.0.serves.makes p.low

touched_now_on : (locked : List Page) (answer : Served) (q : Page) (old new : Standing) (holds : Option (List NamedFile)) (i j : Option SwapImage)
    → old.kernel.place.due ≡ [] → TouchedNow locked answer q old new holds i j → Continues old new 0
touched_now_on locked served.Valid q old new holds i j r h = page_now_on locked q old new holds i j r h
touched_now_on locked (served.Asleep p) q old new holds i j r h = absurd h
touched_now_on locked served.NoFrame q old new holds i j r h = absurd h
touched_now_on locked served.NoSpace q old new holds i j r h = absurd h
touched_now_on locked (served.Signal signal) q old new holds i j r h = absurd h

-- Growth of a stack.

grown_on : (old between : Standing) (pid pages : ℕ) → IsCaller old pid → Grown old between pid pages → Continues old between 0
grown_on old between pid pages c g =
    found_continues old between g.found pid g.process.regs (entries.Grew pid pages) (growth old.kernel pid pages) c tt tt
    (record { step = g.step; rest = g.rest; keeps = g.keeps })

-- An access, whose page is served so.

access_on : (Touched : Served → Page → Standing → Type 0) (old new : Standing) (pid : ℕ) (access : Access) (answer : Served) (i j : Option SwapImage)
    → IsCaller old pid
    → ((a : Served) (q : Page) (from : Standing) → from.kernel.place.due ≡ [] → Touched a q from → Continues from new 0)
    → AccessComes Touched access answer pid old new i j → Continues old new 0
access_on Touched old new pid (accesses.Page q) answer i j c on h = on answer q old c.clear h
access_on Touched old new pid (accesses.Refused signal) answer i j c on h =
    subst (λ (m : Standing). Continues old m 0) (sym h.1.machine) (continues_self old c.clear)
access_on Touched old new pid (accesses.Growth sid pages) answer i j c on h = by answer h
  where
    behind : (a : Served) → GrownFirst old pid pages (Touched a (Stack sid (pages - 1))) → Continues old new 0
    behind a g =
        let first = grown_on old g.between pid pages c g.grown in
        continues_both old g.between new 0 0 first (on a (Stack sid (pages - 1)) g.between first.clear g.behind)

    by : (a : Served) → AccessComes Touched (accesses.Growth sid pages) a pid old new i j → Continues old new 0
    by served.NoSpace g = note_continues old new (entries.Refused pid) c.clear tt g.refused.machine
    by served.Valid g = behind served.Valid g
    by (served.Asleep r) g = behind (served.Asleep r) g
    by served.NoFrame g = behind served.NoFrame g
    by (served.Signal signal) g = behind (served.Signal signal) g

pub access_continues : (old new : Standing) (pid : ℕ) (access : Access) (answer : Served) (holds : Option (List NamedFile)) (i j : Option SwapImage)
    → IsCaller old pid
    → AccessComes (λ came q from. TouchedAs came q from new holds i j) access answer pid old new i j → Continues old new 0
access_continues old new pid access answer holds i j c h =
    access_on (λ a q from. TouchedAs a q from new holds i j) old new pid access answer i j c (λ a q from r t. touched_on a q from new holds i j r t) h

pub access_now_continues : (old new : Standing) (pid : ℕ) (access : Access) (answer : Served) (locked : List Page)
    (holds : Option (List NamedFile)) (i j : Option SwapImage)
    → IsCaller old pid
    → AccessComes (λ came q from. TouchedNow locked came q from new holds i j) access answer pid old new i j → Continues old new 0
access_now_continues old new pid access answer locked holds i j c h =
    access_on (λ a q from. TouchedNow locked a q from new holds i j) old new pid access answer i j c (λ a q from r t. touched_now_on locked a q from new holds i j r t) h
