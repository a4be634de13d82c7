-- What serving the page of an access says of the access.
use Rattle.std.proofs.Common.{◌≡◌, ◌≤◌, ◌+◌, ◌-◌, ℕ, Bool, false, List, [], length, Option, Result, Ok, Err, MatchResult, OnOk, OnErr, inr, subst}
use Rattle.vm_facts.specs.SwapImages.{SwapImage}
use Rattle.vm_facts.specs.declared.page.Page.{Page}
use Rattle.vm_facts.specs.declared.page.Page.TheVariants as page_names
use Rattle.vm_facts.specs.declared.stop.Stop.{Stop}
use Rattle.io_edge.specs.FileHolding.{NamedFile}
use Rattle.clock_hands.specs.Machine.{Standing}
use Rattle.clock_hands.specs.Stops.{StopsWhile}
use Rattle.fault_fill.specs.Serving.{serving_page}
use Rattle.clock_hands.specs.LastMoves.{last_moves}
use Rattle.fault_fill.specs.Answers.{ServedAs, IsShort, AllStayValid}
use Rattle.fault_fill.specs.Touches.{Reaches, TouchedAs, GrownFirst, AccessComes, AccessStops}
use Rattle.fault_fill.specs.declared.access.Access.{Access}
use Rattle.fault_fill.specs.declared.access.Access.TheVariants as accesses
use Rattle.fault_fill.specs.declared.served.Served.{Served}
use Rattle.fault_fill.specs.declared.served.Served.TheVariants as served

-- a stop while the page is served, after few entries
abbrev AtPage : Bool → List Page → Page → Standing → Standing → Option (List NamedFile) → Option SwapImage → Option SwapImage → Stop → Type 0
AtPage now locked q old new holds before after stop =
    StopsWhile (serving_page now locked q) old new holds before after stop
    × (length new.kernel.journal ≤ length old.kernel.journal + length old.kernel.place.transfers + 5)

reached_stops : (now : Bool) (locked : List Page) (access : Access) (q : Page) (pid : ℕ) (old mid new : Standing) (holds : Option (List NamedFile))
    (i j : Option SwapImage) (stop : Stop)
    → Reaches access (Ok q) pid old mid → AtPage now locked q mid new holds i j stop → AccessStops now locked access pid old new holds i j stop
reached_stops now locked (accesses.Page p) q pid old mid new holds i j stop r s =
    subst (λ (m : Standing). AtPage now locked p m new holds i j stop) r.1 (subst (λ (w : Page). AtPage now locked w mid new holds i j stop) r.0 s)
reached_stops now locked (accesses.Refused signal) q pid old mid new holds i j stop r s = absurd r
reached_stops now locked (accesses.Growth sid pages) q pid old mid new holds i j stop r s =
    inr (record { between = mid; grown = r.1; behind = subst (λ (w : Page). AtPage now locked w mid new holds i j stop) r.0 s })

-- the page for which the stack grew where it had to
pub page_stops : (now : Bool) (locked : List Page) (access : Access) (page : Result Page Served) (q : Page) (pid : ℕ) (old mid new : Standing)
    (holds : Option (List NamedFile)) (i j : Option SwapImage) (stop : Stop)
    → page ≡ Ok q → Reaches access page pid old mid → StopsWhile (serving_page now locked q) mid new holds i j stop
    → length new.kernel.journal ≤ length mid.kernel.journal + length mid.kernel.place.transfers + 5 → AccessStops now locked access pid old new holds i j stop
page_stops now locked access page q pid old mid new holds i j stop e r s few =
    reached_stops now locked access q pid old mid new holds i j stop (subst (λ (x : Result Page Served). Reaches access x pid old mid) e r) ((s, few))

reached_comes : (access : Access) (q : Page) (pid : ℕ) (old mid new : Standing) (holds : Option (List NamedFile)) (i j : Option SwapImage) (answer : Served)
    → Reaches access (Ok q) pid old mid → TouchedAs answer q mid new holds i j
    → AccessComes (λ came w from. TouchedAs came w from new holds i j) access answer pid old new i j
reached_comes (accesses.Page p) q pid old mid new holds i j answer r s =
    subst (λ (m : Standing). TouchedAs answer p m new holds i j) r.1 (subst (λ (w : Page). TouchedAs answer w mid new holds i j) r.0 s)
reached_comes (accesses.Refused signal) q pid old mid new holds i j answer r s = absurd r
reached_comes (accesses.Growth sid pages) q pid old mid new holds i j answer r s = by answer s
  where
    grown : (a : Served) → TouchedAs a q mid new holds i j
        → GrownFirst old pid pages (λ from. TouchedAs a (page_names.Stack sid (pages - 1)) from new holds i j)
    grown a t = record { between = mid; grown = r.1; behind = subst (λ (w : Page). TouchedAs a w mid new holds i j) r.0 t }

    by : (a : Served) → TouchedAs a q mid new holds i j
        → AccessComes (λ came w from. TouchedAs came w from new holds i j) (accesses.Growth sid pages) a pid old new i j
    by served.Valid t = grown served.Valid t
    by (served.Asleep p) t = grown (served.Asleep p) t
    by served.NoFrame t = grown served.NoFrame t
    by served.NoSpace t = absurd t.serves.1
    by (served.Signal signal) t = absurd t.serves.1

-- as it is served without waiting
pub page_comes : (access : Access) (page : Result Page Served) (q : Page) (pid : ℕ) (old mid new : Standing) (holds : Option (List NamedFile))
    (i j : Option SwapImage) (r : Result Served Stop)
    → page ≡ Ok q → Reaches access page pid old mid
    → MatchResult r (λ a. ServedAs a q mid new holds i j) (StopsWhile (serving_page false [] q) mid new holds i j) → OnOk r (IsShort q mid new)
    → OnErr r (length new.kernel.journal ≤ length mid.kernel.journal + length mid.kernel.place.transfers + 5)
    → OnOk r (last_moves new.kernel.journal ≤ last_moves mid.kernel.journal) → OnOk r (AllStayValid mid.kernel.place new.kernel.place)
    → MatchResult r (λ a. AccessComes (λ came w from. TouchedAs came w from new holds i j) access a pid old new i j)
    (AccessStops false [] access pid old new holds i j)
page_comes access page q pid old mid new holds i j (Ok a) e reach made few few_at low stay =
    reached_comes access q pid old mid new holds i j a (subst (λ (x : Result Page Served). Reaches access x pid old mid) e reach)
    (record { serves = made; few = few; low = low; stay = stay })
page_comes access page q pid old mid new holds i j (Err stop) e reach made few few_at low stay =
    page_stops false [] access page q pid old mid new holds i j stop e reach made few_at
