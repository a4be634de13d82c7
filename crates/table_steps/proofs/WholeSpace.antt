-- All pages of a space are forgotten.
use Rattle.std.proofs.Common.{◌≡◌, ◌≢◌, ℕ, zero, suc, ◌-◌, ◌<◌, List, [], ◌∷◌, ◌++◌, length, map, slice_get, option_map, Option, Some, None, sym, ap, ◌∙◌, subst, arith}
use Rattle.std.proofs.lemmas.Option.{same_Some}
use Rattle.vm_facts.specs.declared.page.Page.{Page}
use Rattle.vm_facts.specs.declared.page.Page.TheVariants.{Data, Stack}
use Rattle.space_map.specs.Space.{Places}
use Rattle.flat_state.specs.Numbers.{IsAbsent, AllDistinct}
use Rattle.flat_state.specs.PageNames.{pages_from}
use Rattle.page_model.specs.Pages.{SpacePages, numbered, data_in, stack_in}
use Rattle.page_model.specs.Placement.{Placement, space_number, state_of, IsThere}
use Rattle.page_model.specs.Moves.{drop_all}
use Rattle.page_model.specs.Place.{data_count, stack_count, stack_from, pages_of_space}
use Rattle.page_model.specs.Conditions.{EachPage, AtRest, IsSettled}
use Rattle.page_laws.proofs.Lists.Pages.{numbered_hit, numbered_miss}
use Rattle.page_laws.proofs.Lists.Runs.{pages_from_each}
use Rattle.page_laws.proofs.Moves.Puts.{KeptByPuts, drop_all_kept}
use Rattle.page_laws.proofs.Ownership.Spaces.{drop_all_length}
use Rattle.kernel_tables.specs.declared.tables.Tables.{Tables}
use Rattle.kernel_tables.specs.Shown.{slot_shown, space_shown}
use Rattle.kernel_tables.specs.Rising.{sids_of, StandsAt}
use Rattle.kernel_tables.specs.View.{Lists, placement_of}
use Rattle.kernel_tables.specs.Machine.{lists_of}
use Rattle.kernel_tables.specs.Changing.{Dropped}
use Rattle.kernel_tables.proofs.Same.{name_of, names_sids}
use Rattle.kernel_tables.proofs.Shows.{sids_shown, length_map, put_names}
use Rattle.kernel_tables.proofs.UserFrames.{numbered_shown}
use Rattle.table_steps.proofs.Forgets.{dropped_more, all_dropped_rests}

-- Which space stands there.

pub absent_at : (n m i : ℕ) (ns : List ℕ) → IsAbsent n ns → slice_get ns i ≡ Some m → n ≢ m
absent_at n m i [] h e = absurd cc
absent_at n m zero (k ∷ ns) h e = λ s. h.0 (let same : k ≡ m = cc in same ∙ sym s)
absent_at n m (suc i) (k ∷ ns) h e = absent_at n m i ns h.1 e

pub stands_numbered : (ss : List Places) (sid i : ℕ) → AllDistinct (sids_of ss) → slice_get (sids_of ss) i ≡ Some sid
    → numbered (λ (s : Places). s.sid) sid ss ≡ slice_get ss i
stands_numbered [] sid i d e = absurd cc
stands_numbered (s ∷ ss) sid zero d e = numbered_hit (λ (s : Places). s.sid) sid s ss cc
stands_numbered (s ∷ ss) sid (suc i) d e = numbered_miss (λ (s : Places). s.sid) sid s ss (absent_at s.sid sid i (sids_of ss) d.0 e) ∙ stands_numbered ss sid i d.1 e

pub stands_shown : (t : Lists) (sid i : ℕ) → AllDistinct (sids_of t.spaces) → StandsAt t.spaces sid i
    → numbered space_number sid (placement_of t).spaces ≡ option_map (space_shown t.slots) (slice_get t.spaces i)
stands_shown t sid i d h = numbered_shown t.slots t.spaces sid ∙ ap (option_map (space_shown t.slots)) (stands_numbered t.spaces sid i d h.number)

-- How many pages it has.

pub data_counts : (t : Lists) (sid i n : ℕ) → AllDistinct (sids_of t.spaces) → StandsAt t.spaces sid i
    → Some n ≡ option_map (λ (s : Places). length s.data) (slice_get t.spaces i) → n ≡ data_count (placement_of t) sid
data_counts t sid i n d h e = go (slice_get t.spaces i) e ∙ sym (ap (λ (o : Option SpacePages). length (data_in o)) (stands_shown t sid i d h))
  where
    go : (o : Option Places) → Some n ≡ option_map (λ (s : Places). length s.data) o
        → n ≡ length (data_in (option_map (space_shown t.slots) o))
    go None k = absurd cc
    go (Some s) k = same_Some n (length s.data) k ∙ sym (length_map (slot_shown t.slots) s.data)

pub stack_counts : (t : Lists) (sid i n : ℕ) → AllDistinct (sids_of t.spaces) → StandsAt t.spaces sid i
    → Some n ≡ option_map (λ (s : Places). length s.stack) (slice_get t.spaces i) → n ≡ stack_count (placement_of t) sid
stack_counts t sid i n d h e = go (slice_get t.spaces i) e ∙ sym (ap (λ (o : Option SpacePages). length (stack_in o)) (stands_shown t sid i d h))
  where
    go : (o : Option Places) → Some n ≡ option_map (λ (s : Places). length s.stack) o
        → n ≡ length (stack_in (option_map (space_shown t.slots) o))
    go None k = absurd cc
    go (Some s) k = same_Some n (length s.stack) k ∙ sym (length_map (slot_shown t.slots) s.stack)

-- Its pages are there, and in no transfer.

pub data_there : (p : Placement) (sid n : ℕ) → n ≡ data_count p sid → EachPage (IsThere p) (pages_from (Data sid 0) 0 (n - 0))
data_there p sid n e = pages_from_each (IsThere p) (Data sid 0) 0 (n - 0) (λ w l m. there w (omega arith))
  where
    there : (w : ℕ) → w < data_count p sid → IsThere p (Data sid w)
    there w l = l

pub stack_there : (p : Placement) (sid n : ℕ) → n ≡ stack_count p sid → EachPage (IsThere p) (pages_from (Stack sid 0) 0 (n - 0))
stack_there p sid n e =
    let there : (w : ℕ) → w < stack_count p sid → IsThere p (Stack sid w) = λ w l. l in
    pages_from_each (IsThere p) (Stack sid 0) 0 (n - 0) (λ w l m. there w (omega arith))

pub data_rest : (p : Placement) (sid n : ℕ) → IsSettled p sid → EachPage (λ q. AtRest (state_of p q)) (pages_from (Data sid 0) 0 n)
data_rest p sid n h = pages_from_each (λ q. AtRest (state_of p q)) (Data sid 0) 0 n (λ w l m. h.data_rests w)

pub stack_rest : (p : Placement) (sid n : ℕ) → IsSettled p sid → EachPage (λ q. AtRest (state_of p q)) (pages_from (Stack sid 0) 0 n)
stack_rest p sid n h = pages_from_each (λ q. AtRest (state_of p q)) (Stack sid 0) 0 n (λ w l m. h.stack_rests w)

-- where others were forgotten
pub stack_there_yet : (p : Placement) (qs : List Page) (sid n : ℕ) → n ≡ stack_count p sid
    → EachPage (IsThere (drop_all p qs)) (pages_from (Stack sid 0) 0 (n - 0))
stack_there_yet p qs sid n e = stack_there (drop_all p qs) sid n (e ∙ sym (drop_all_length qs p (Stack sid 0)))

pub settled_yet : (p : Placement) (qs : List Page) (sid : ℕ) → IsSettled p sid → IsSettled (drop_all p qs) sid
settled_yet p qs sid h = record {
  data_rests = λ v. all_dropped_rests p qs (Data sid v) (h.data_rests v);
  stack_rests = λ v. all_dropped_rests p qs (Stack sid v) (h.stack_rests v);
}

-- The whole.

pub space_dropped : (t u w : Tables) (sid n m : ℕ) → n ≡ data_count (placement_of (lists_of t)) sid
    → m ≡ stack_count (placement_of (lists_of t)) sid
    → Dropped t u (pages_from (Data sid 0) 0 (n - 0)) → Dropped u w (pages_from (Stack sid 0) 0 (m - 0))
    → Dropped t w (pages_of_space (placement_of (lists_of t)) sid)
space_dropped t u w sid n m a b d e =
    let k : (x : ℕ) → x - 0 ≡ x = λ x. omega arith in
    subst (λ (qs : List Page). Dropped t w (qs ++ stack_from sid 0 (stack_count (placement_of (lists_of t)) sid))) (ap (pages_from (Data sid 0) 0) (k n ∙ a))
    (subst (λ (qs : List Page). Dropped t w (pages_from (Data sid 0) 0 (n - 0) ++ qs)) (ap (pages_from (Stack sid 0) 0) (k m ∙ b))
    (dropped_more t u w (pages_from (Data sid 0) 0 (n - 0)) (pages_from (Stack sid 0) 0 (m - 0)) d e))

-- The spaces have the names that they had.

names_by_puts : KeptByPuts (λ p q. map name_of q.spaces ≡ map name_of p.spaces)
names_by_puts = record {
  still = λ p q s t r. ap (map name_of) s;
  both = λ p q r a b. b ∙ a;
  puts = λ p v s m. put_names p v s m;
}

pub drop_names : (qs : List Page) (p : Placement) → map name_of (drop_all p qs).spaces ≡ map name_of p.spaces
drop_names qs p = drop_all_kept names_by_puts qs p

pub dropped_numbers : (t u : Tables) (qs : List Page) → Dropped t u qs → sids_of u.spaces ≡ sids_of t.spaces
dropped_numbers t u qs d =
    let p : Placement = placement_of (lists_of t) in
    sym (sids_shown u.core.slots u.spaces) ∙ ap (λ (x : Placement). map space_number x.spaces) d.shows.place ∙ names_sids (drop_all p qs).spaces p.spaces (drop_names qs p)
    ∙ sids_shown t.core.slots t.spaces
