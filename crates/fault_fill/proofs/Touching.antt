-- The process of an access, its space, and what the access asks for.
use Rattle.std.proofs.Common.{◌≡◌, ℕ, ◌+◌, ◌-◌, ◌*◌, ◌/◌, ◌<◌, ◌≤◌, ◌&&◌, inl, inr, Bool, true, false, ltb, leb, List, [], ◌∷◌, length, Option, Some, None, slice_get, refl, sym, ap, ◌∙◌, subst, arith}
use Rattle.std.proofs.lemmas.Bool.{cases_lt, cases_eq, and_parts, ltb-true}
use Rattle.std.proofs.lemmas.Bool.Decides.{nat_tests}
use Rattle.vm_facts.specs.declared.page.Page.{Page}
use Rattle.vm_facts.specs.declared.page.Page.TheVariants as pages
use Rattle.vax_pte.specs.declared.Place.{Place}
use Rattle.core_map.specs.Frames.{Frames}
use Rattle.proc_table.specs.declared.process.Proc.{Proc as Record}
use Rattle.proc_table.specs.Records.{find}
use Rattle.space_map.specs.Space.{Places, place_in}
use Rattle.flat_state.specs.Space.{spot_by, spot_at, stack_top, stack_reach}
use Rattle.flat_state.specs.declared.spot.Spot.{Spot}
use Rattle.flat_state.specs.declared.spot.Spot.TheVariants as spots
use Rattle.page_model.specs.Pages.{SpacePages, numbered}
use Rattle.page_model.specs.Placement.{Placement, IsThere, space_number, slots_of, sharers_in, image_in, image_of}
use Rattle.page_model.specs.Conditions.{IsShared}
use Rattle.page_laws.proofs.Lists.Pages.{numbered_hit, numbered_miss}
use Rattle.kernel_model.specs.Kernel.{Life, HoldsSpace, Kernel, Proc}
use Rattle.kernel_model.specs.Asks.{HasSpace}
use Rattle.kernel_model.specs.ChangeStep.{space_of_life, life_of_proc}
use Rattle.kernel_model.specs.Unit.{proc_of}
use Rattle.clock_hands.specs.Views.{IsNamedBy, ShowsSpace}
use Rattle.clock_hands.specs.Alike.{AreRecords}
use Rattle.clock_hands.specs.Machine.{proc_of_record, processes_of}
use Rattle.clock_hands.specs.UserMemory.{CanLend}
use Rattle.clock_hands.proofs.Listed.{process_is}
use Rattle.clock_hands.proofs.Entries.{data_hit, stack_hit, text_hit}
use Rattle.clock_hands.proofs.UserFrames.{get_within, get_below}
use Rattle.fault_fill.specs.declared.access.Access.{Access}
use Rattle.fault_fill.specs.declared.access.Access.TheVariants as accesses
use Rattle.fault_fill.specs.Access.{access_at, access_of}
use Rattle.fault_fill.specs.Growth.{space_of_pid, access_to, IsGrowth, IsAsked}
use Rattle.fault_fill.proofs.Homes.{home_place, some_place}
use Rattle.fault_fill.proofs.Accesses.{IsOf, of_space, access_there}

-- The record.

pub record_shown : (k : Kernel) (ps : List Record) (pid : ℕ) → k.processes ≡ processes_of ps k.next_pid → AreRecords ps k.next_pid
    → proc_of k pid ≡ proc_of_record (find pid ps)
record_shown k ps pid e h = ap (λ (qs : List Proc). numbered (λ (p : Proc). p.pid) pid qs) e ∙ process_is ps k.next_pid pid h

none_holds : (o : Option Proc) (sid : ℕ) → life_of_proc o ≡ HoldsSpace sid → o ≡ None → ⊥
none_holds None sid h e = absurd cc
none_holds (Some p) sid h e = absurd cc

pub not_there : (k : Kernel) (pid : ℕ) → CanLend k pid → proc_of k pid ≡ None → ⊥
not_there k pid c e = none_holds (proc_of k pid) c.sid c.holds e

pub held_there : (k : Kernel) (pid : ℕ) → CanLend k pid → HasSpace k.place (space_of_pid k pid)
held_there k pid c = subst (λ (l : Life). HasSpace k.place (space_of_life l)) (sym c.holds) c.there

-- The sizes of segments.

pub same_size : (n m : ℕ) → ((v : ℕ) → v < n → v < m) → ((v : ℕ) → v < m → v < n) → n ≡ m
same_size n m f g = elim (cases_lt n m) [
  | inl l ↦ absurd (let a = g n l in omega arith)
  | inr h ↦ elim (cases_lt m n) [
    | inl l ↦ absurd (let a = f m l in omega arith)
    | inr k ↦ omega arith
  ]
]

module _ (p : Placement) (core : Frames) (s : Places) (shows : ShowsSpace p core s) where
  size_of : (at : ℕ → Page) (xs : List Place) (n : ℕ) → ((v : ℕ) → IsNamedBy s (at v)) → ((v : ℕ) → place_in s (at v) ≡ slice_get xs v)
      → ((v : ℕ) → IsThere p (at v) → v < n) → ((v : ℕ) → v < n → IsThere p (at v)) → length xs ≡ n
  size_of at xs n named hit below there =
      same_size (length xs) n
      (λ v l. let x = get_within xs v l in below v (of_space p core s (at v) x.0 shows (named v) (hit v ∙ x.1)).there)
      (λ v l. let x = some_place (place_in s (at v)) (home_place p core s (at v) shows (named v) (there v l)) in get_below xs v x.0 (sym (hit v) ∙ x.1))

  pub text_size : length s.text ≡ length (slots_of p (pages.Text s.image 0))
  text_size = size_of (pages.Text s.image) s.text _ (λ v. refl) (λ v. text_hit s s.image v refl) (λ v h. h) (λ v h. h)

  pub data_size : length s.«data» ≡ length (slots_of p (pages.Data s.sid 0))
  data_size = size_of (pages.Data s.sid) s.«data» _ (λ v. refl) (λ v. data_hit s s.sid v refl) (λ v h. h) (λ v h. h)

  pub stack_size : length s.stack ≡ length (slots_of p (pages.Stack s.sid 0))
  stack_size = size_of (pages.Stack s.sid) s.stack _ (λ v. refl) (λ v. stack_hit s s.sid v refl) (λ v h. h) (λ v h. h)

  -- What an access asks for.

  pub access_shown : (sid address : ℕ) (write : Bool) → s.sid ≡ sid → s.image ≡ image_of p sid → access_of s address write ≡ access_to p sid address write
  access_shown sid address write named image =
      ap (λ (n : ℕ). access_at s.sid s.image address (spot_at (1024 * n) (1024 * length s.«data») (1024 * length s.stack) address) write) text_size
      ∙ ap (λ (n : ℕ). access_at s.sid s.image address (spot_at (1024 * length (slots_of p (pages.Text s.image 0))) (1024 * n) (1024 * length s.stack) address) write) data_size
      ∙ ap (λ (n : ℕ). access_at s.sid s.image address (spot_at (1024 * length (slots_of p (pages.Text s.image 0))) (1024 * length (slots_of p (pages.Data s.sid 0))) (1024 * n) address) write)
      stack_size
      ∙ ap (λ (i : ℕ). access_at s.sid i address (spot_at (1024 * length (slots_of p (pages.Text i 0))) (1024 * length (slots_of p (pages.Data s.sid 0)))
      (1024 * length (slots_of p (pages.Stack s.sid 0))) address) write) image
      ∙ ap (λ (n : ℕ). access_at n (image_of p sid) address (spot_at (1024 * length (slots_of p (pages.Text (image_of p sid) 0))) (1024 * length (slots_of p (pages.Data n 0)))
      (1024 * length (slots_of p (pages.Stack n 0))) address) write) named

-- Text of a space's image is shared.

shares_one : (image : ℕ) (s : SpacePages) (ss : List SpacePages) → s.image ≡ image → 0 < sharers_in image (s ∷ ss)
shares_one image s ss e = grind (arith, nat_tests)

shares_more : (image : ℕ) (s : SpacePages) (ss : List SpacePages) → 0 < sharers_in image ss → 0 < sharers_in image (s ∷ ss)
shares_more image s ss l = omega arith

shared_in : (n : ℕ) (ss : List SpacePages) (x : SpacePages) → numbered space_number n ss ≡ Some x → 0 < sharers_in x.image ss
shared_in n [] x e = absurd cc
shared_in n (s ∷ ss) x e = elim (cases_eq s.sid n) [
  | inl i ↦ shares_one x.image s ss (let a : Some s ≡ Some x = sym (numbered_hit space_number n s ss i) ∙ e in let b : s ≡ x = cc in ap (λ (y : SpacePages). y.image) b)
  | inr d ↦ shares_more x.image s ss (shared_in n ss x (sym (numbered_miss space_number n s ss d) ∙ e))
]

shared_by : (ss : List SpacePages) (o : Option SpacePages) (n : ℕ) → numbered space_number n ss ≡ o → (o ≡ None → ⊥) → 0 < sharers_in (image_in o) ss
shared_by ss None n e there = absurd (there refl)
shared_by ss (Some x) n e there = shared_in n ss x e

shared_text : (p : Placement) (sid : ℕ) → HasSpace p sid → 0 < sharers_in (image_of p sid) p.spaces
shared_text p sid there = shared_by p.spaces (numbered space_number sid p.spaces) sid refl there

page_shared : (p : Placement) (s : Places) (sid : ℕ) (q : Page) → IsNamedBy s q → s.image ≡ image_of p sid → HasSpace p sid → IsShared p q
page_shared p s sid (pages.Data n v) named image there = tt
page_shared p s sid (pages.Stack n v) named image there = tt
page_shared p s sid (pages.Text n v) named image there = subst (λ (i : ℕ). 0 < sharers_in i p.spaces) (sym (named ∙ image)) (shared_text p sid there)

-- An address below the stack is near enough, and below its lowest page.

by_below : (b c d e : Bool) (t a : ℕ) → spot_by b c d e t a ≡ spots.Below → (d ≡ false) × (e ≡ true)
by_below true c d e t a h = absurd cc
by_below false true d e t a h = absurd cc
by_below false false true e t a h = absurd cc
by_below false false false true t a h = (refl, refl)
by_below false false false false t a h = absurd cc

not_both : (a b : Bool) → a && b ≡ false → b ≡ true → a ≡ false
not_both true b h e = absurd cc
not_both false b h e = refl

record IsBelow (pages a : ℕ) : Type 0 where
  more : pages < (stack_top - 1 - a) / 1024 + 1
  few : (stack_top - 1 - a) / 1024 + 1 ≤ 512

below_pages : (t d pages a : ℕ) → spot_at t d (1024 * pages) a ≡ spots.Below → IsBelow pages a
unfolding spot_at
below_pages t d pages a h =
    let found = by_below (ltb a t) (ltb a (t + d)) _ _ t a h in
    let near = and_parts (leb (stack_top - stack_reach) a) (ltb a stack_top) found.1 in
    let top : a < stack_top = ltb-true a stack_top near.1 in
    let low : leb (stack_top - stack_reach) a ≡ true = near.0 in
    let above : stack_top - stack_reach ≤ a = grind (arith, nat_tests) in
    let out : leb (stack_top - 1024 * pages) a ≡ false = not_both (leb (stack_top - 1024 * pages) a) (ltb a stack_top) found.0 near.1 in
    let under : a < stack_top - 1024 * pages = grind (arith, nat_tests) in
    record { more = omega arith; few = omega arith }

asks_growth : (sid pages n m : ℕ) → accesses.Growth sid pages ≡ accesses.Growth n m → (n ≡ sid) × (m ≡ pages)
asks_growth sid pages n m e = (cc, cc)

-- What an access asks for may be served.

module _ (p : Placement) (core : Frames) (s : Places) (shows : ShowsSpace p core s) (sid : ℕ) (named : s.sid ≡ sid) (image : s.image ≡ image_of p sid) (there : HasSpace p sid) (address : ℕ) where
  growth_at : (n m : ℕ) → spot_at (1024 * length s.text) (1024 * length s.«data») (1024 * length s.stack) address ≡ spots.Below
      → accesses.Growth s.sid ((stack_top - 1 - address) / 1024 + 1) ≡ accesses.Growth n m → IsGrowth p sid n m
  growth_at n m h e =
      let is = asks_growth s.sid ((stack_top - 1 - address) / 1024 + 1) n m e in
      let below = below_pages (1024 * length s.text) (1024 * length s.«data») (length s.stack) address h in
      record {
        own = is.0 ∙ named;
        more = subst (λ (i : ℕ). length (slots_of p (pages.Stack i 0)) < m) (sym is.0) (let a = stack_size p core s shows in let b = below.more in let c = is.1 in omega arith);
        few = let b = below.few in let c = is.1 in omega arith;
      }

  growth_asks : (write : Bool) (n m : ℕ) → access_of s address write ≡ accesses.Growth n m → IsGrowth p sid n m
  growth_asks write n m e = go (spot_at (1024 * length s.text) (1024 * length s.«data») (1024 * length s.stack) address) refl write e
    where
      go : (x : Spot) → spot_at (1024 * length s.text) (1024 * length s.«data») (1024 * length s.stack) address ≡ x → (b : Bool)
          → access_at s.sid s.image address x b ≡ accesses.Growth n m → IsGrowth p sid n m
      go (spots.Text at) k true h = absurd cc
      go (spots.Text at) k false h = absurd cc
      go (spots.Data at) k b h = absurd cc
      go (spots.Stack at) k b h = absurd cc
      go spots.Below k b h = growth_at n m k h
      go spots.Outside k b h = absurd cc

  pub access_asks : (write : Bool) (x : Access) → x ≡ access_of s address write → IsAsked p sid x
  access_asks write (accesses.Page q) e =
      let of : IsOf p s q = access_there p core s shows address q write (sym e) in
      (of.there, page_shared p s sid q of.named image there)
  access_asks write (accesses.Growth n m) e = growth_asks write n m (sym e)
  access_asks write (accesses.Refused signal) e = tt
