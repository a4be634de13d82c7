-- Pages that lie together on a pair of devices, as far as the unit of the first one goes.
use Rattle.std.proofs.Common.{◌≡◌, ◌≤◌, ◌<◌, ◌+◌, ◌-◌, ◌*◌, ◌/◌, ◌%◌, min, inl, inr, ℕ, zero, suc, List, [], ◌∷◌, length, take, get_or, Option, Some, None, refl, sym, ap, ◌∙◌, subst, arith}
use Rattle.std.specs.Prelude.{⊤}
use Rattle.std.proofs.lemmas.List.{length-take, length-take-le, take-take, take_min}
use Rattle.vm_facts.specs.SwapImages.{SwapImage}
use Rattle.vm_facts.proofs.Swap.{length-put_blocks}
use Rattle.io_edge.specs.declared.Moved.{Moved}
use Rattle.io_edge.specs.declared.Moved.TheVariants.{Done, Failed}
use Rattle.io_edge.specs.Count.{Counts}
use Rattle.io_edge.specs.SwapImage.{WritesPage, page_written}
use Rattle.io_edge.specs.SwapRuns.{WritesPages, SpoilsPages, WritesSomePages, pages_of_unit}
use Rattle.io_edge.specs.Striping.{device_of, place_of, zero_needs, one_needs, pair_blocks, pair_image, bytes_beyond, KeepsBeyond}
use Rattle.io_edge.proofs.StripeWrites.{inside_even, inside_odd}
use Rattle.io_edge.proofs.PairCalls.{IsWhole, pair_writes_even, pair_writes_odd, pair_spoils_even, pair_spoils_odd}
use Rattle.io_edge.proofs.BeyondPair.{within_zero, within_one, leaves_beyond}
use Rattle.io_edge.proofs.RunWrites.{spoils_first}

-- ---- pages

-- each of these pages has 1,024 bytes
abbrev pub ArePages : List (List ℕ) → Type 0
ArePages [] = ⊤
ArePages (page ∷ pages) = (length page ≡ 1024) × ArePages pages

pub are_pages : (pages : List (List ℕ)) → ((i : ℕ) → i < length pages → length (get_or pages i []) ≡ 1024) → ArePages pages
are_pages [] each = tt
are_pages (page ∷ pages) each = (each 0 (omega arith), are_pages pages (λ i below. each (suc i) (omega (arith, below))))

pages_first : (count : ℕ) (pages : List (List ℕ)) → ArePages pages → ArePages (take count pages)
pages_first zero pages a = tt
pages_first (suc count) [] a = tt
pages_first (suc count) (page ∷ pages) a = (a.0, pages_first count pages a.1)

-- ---- blocks of one unit

-- so many pages lie in the unit of the first one's block
pub record InUnit (block : ℕ) (pages : List (List ℕ)) : Type 0 where
  pub even : block % 2 ≡ 0
  pub fits : block % 1024 + 2 * length pages ≤ 1024

near_next : (block more : ℕ) → block % 1024 + 2 * suc (suc more) ≤ 1024 → block % 1024 + 4 ≤ 1024
near_next block more fits = omega (arith, fits)

next_place : (block : ℕ) → block % 1024 + 4 ≤ 1024 → place_of (block + 2) ≡ place_of block + 2
unfolding place_of
next_place block near = omega (arith, near)

next_device : (block : ℕ) → block % 1024 + 4 ≤ 1024 → device_of (block + 2) ≡ device_of block
unfolding device_of
next_device block near = omega (arith, near)

next_unit : (block : ℕ) (page other : List ℕ) (pages : List (List ℕ)) → InUnit block (page ∷ other ∷ pages) → InUnit (block + 2) (other ∷ pages)
next_unit block page other pages unit =
    let even : block % 2 ≡ 0 = unit.even in
    let fits : block % 1024 + 2 * suc (suc (length pages)) ≤ 1024 = unit.fits in
    record { even = omega (arith, even); fits = omega (arith, fits) }

-- the last page of a run of the unit
last_place : (block more : ℕ) → block % 1024 + 2 * more + 2 ≤ 1024 → place_of (block + 2 * more) ≡ place_of block + 2 * more
unfolding place_of
last_place block more fits = omega (arith, fits)

last_device : (block more : ℕ) → block % 1024 + 2 * more + 2 ≤ 1024 → device_of (block + 2 * more) ≡ device_of block
unfolding device_of
last_device block more fits = omega (arith, fits)

-- what holds of each page's place holds of a run's end
run_within : (block blocks size more : ℕ) → block % 2 ≡ 0 → block % 1024 + 2 * more + 2 ≤ 1024
    → ((b : ℕ) → b % 2 ≡ 0 → b + 2 ≤ blocks → device_of b ≡ device_of block → place_of b + 2 ≤ size) → block + 2 * more + 2 ≤ blocks
    → place_of block + 2 * more + 2 ≤ size
run_within block blocks size more even fits each within =
    let last : place_of (block + 2 * more) + 2 ≤ size = each (block + 2 * more) (omega (arith, even)) within (last_device block more fits) in
    omega (arith, last, last_place block more fits)

pub inside_run_even : (block even_size odd_size : ℕ) (pages : List (List ℕ)) → 0 < length pages → InUnit block pages → device_of block ≡ 0
    → block + 2 * length pages ≤ pair_blocks even_size odd_size → place_of block + 2 * length pages ≤ even_size
inside_run_even block even_size odd_size pages some unit on within =
    let fits : block % 1024 + 2 * length pages ≤ 1024 = unit.fits in
    let ends : place_of block + 2 * (length pages - 1) + 2 ≤ even_size =
    run_within block (pair_blocks even_size odd_size) even_size (length pages - 1) unit.even (omega (arith, some, fits))
    (λ b even inside same. inside_even b even_size odd_size even inside (same ∙ on)) (omega (arith, some, within)) in
    omega (arith, some, ends)

pub inside_run_odd : (block even_size odd_size : ℕ) (pages : List (List ℕ)) → 0 < length pages → InUnit block pages → device_of block ≡ 1
    → block + 2 * length pages ≤ pair_blocks even_size odd_size → place_of block + 2 * length pages ≤ odd_size
inside_run_odd block even_size odd_size pages some unit on within =
    let fits : block % 1024 + 2 * length pages ≤ 1024 = unit.fits in
    let ends : place_of block + 2 * (length pages - 1) + 2 ≤ odd_size =
    run_within block (pair_blocks even_size odd_size) odd_size (length pages - 1) unit.even (omega (arith, some, fits))
    (λ b even inside same. inside_odd b even_size odd_size even inside (same ∙ on)) (omega (arith, some, within)) in
    omega (arith, some, ends)

pub within_run_zero : (block blocks : ℕ) (pages : List (List ℕ)) → 0 < length pages → InUnit block pages → device_of block ≡ 0
    → block + 2 * length pages ≤ blocks → place_of block + 2 * length pages ≤ zero_needs blocks
within_run_zero block blocks pages some unit on within =
    let fits : block % 1024 + 2 * length pages ≤ 1024 = unit.fits in
    let ends : place_of block + 2 * (length pages - 1) + 2 ≤ zero_needs blocks =
    run_within block blocks (zero_needs blocks) (length pages - 1) unit.even (omega (arith, some, fits))
    (λ b even inside same. within_zero b blocks even inside (same ∙ on)) (omega (arith, some, within)) in
    omega (arith, some, ends)

pub within_run_one : (block blocks : ℕ) (pages : List (List ℕ)) → 0 < length pages → InUnit block pages → device_of block ≡ 1
    → block + 2 * length pages ≤ blocks → place_of block + 2 * length pages ≤ one_needs blocks
within_run_one block blocks pages some unit on within =
    let fits : block % 1024 + 2 * length pages ≤ 1024 = unit.fits in
    let ends : place_of block + 2 * (length pages - 1) + 2 ≤ one_needs blocks =
    run_within block blocks (one_needs blocks) (length pages - 1) unit.even (omega (arith, some, fits))
    (λ b even inside same. within_one b blocks even inside (same ∙ on)) (omega (arith, some, within)) in
    omega (arith, some, ends)

-- ---- the image of one device, and of the pair

told_once : (a b : SwapImage) → Some a ≡ Some b → a ≡ b
told_once a b same = cc

-- an image keeps its size where a page is written
pub whole_after : (image next : Option SwapImage) (size place : ℕ) (page : List ℕ) → IsWhole image size → place + 2 ≤ size → length page ≡ 1024
    → WritesPage image place page next → IsWhole next size
whole_after None next size place page long inside whole w after told = absurd (let none : None ≡ Some after = sym w ∙ told in cc)
whole_after (Some image) next size place page long inside whole w after told =
    let same : page_written image place page ≡ after = told_once (page_written image place page) after (sym w ∙ told) in
    let within : 512 * place + 1024 ≤ length image.bytes = omega (arith, inside, long image refl) in
    ap (λ (left : SwapImage). length left.bytes) (sym same) ∙ length-put_blocks image.bytes page place within whole ∙ long image refl

pub pair_run_even : (even_size odd_size place block : ℕ) (evens odds new : Option SwapImage) (pages : List (List ℕ)) → IsWhole evens even_size
    → IsWhole odds odd_size → place ≡ place_of block → device_of block ≡ 0 → InUnit block pages
    → block + 2 * length pages ≤ pair_blocks even_size odd_size → ArePages pages → WritesPages evens place pages new
    → WritesPages (pair_image (pair_blocks even_size odd_size) evens odds) block pages (pair_image (pair_blocks even_size odd_size) new odds)
pair_run_even even_size odd_size place block evens odds new [] even_whole odd_whole there on unit within whole w =
    ap (λ (image : Option SwapImage). pair_image (pair_blocks even_size odd_size) image odds) w
pair_run_even even_size odd_size place block evens odds new (page ∷ []) even_whole odd_whole there on unit within whole w = (
  pair_image (pair_blocks even_size odd_size) w.0 odds,
  pair_writes_even even_size even_size odd_size place block evens odds w.0 page even_whole odd_whole refl there on unit.even (omega (arith, within)) whole.0 w.1,
  ap (λ (image : Option SwapImage). pair_image (pair_blocks even_size odd_size) image odds) w.2,
)
pair_run_even even_size odd_size place block evens odds new (page ∷ other ∷ pages) even_whole odd_whole there on unit within whole w =
    let near : block % 1024 + 4 ≤ 1024 = near_next block (length pages) unit.fits in
    let inside : block + 2 ≤ pair_blocks even_size odd_size = omega (arith, within) in
    let here : place + 2 ≤ even_size = subst (λ (p : ℕ). p + 2 ≤ even_size) (sym there) (inside_even block even_size odd_size unit.even inside on) in (
      pair_image (pair_blocks even_size odd_size) w.0 odds,
      pair_writes_even even_size even_size odd_size place block evens odds w.0 page even_whole odd_whole refl there on unit.even inside whole.0 w.1,
      pair_run_even even_size odd_size (place + 2) (block + 2) w.0 odds new (other ∷ pages) (whole_after evens w.0 even_size place page even_whole here whole.0 w.1) odd_whole
          (ap (λ (p : ℕ). p + 2) there ∙ sym (next_place block near)) (next_device block near ∙ on) (next_unit block page other pages unit) (omega (arith, within)) whole.1 w.2,
    )

pub pair_spoil_even : (even_size odd_size place block : ℕ) (evens odds new : Option SwapImage) (pages : List (List ℕ)) → IsWhole evens even_size
    → IsWhole odds odd_size → place ≡ place_of block → device_of block ≡ 0 → InUnit block pages
    → block + 2 * length pages ≤ pair_blocks even_size odd_size → ArePages pages → SpoilsPages evens place pages new
    → SpoilsPages (pair_image (pair_blocks even_size odd_size) evens odds) block pages (pair_image (pair_blocks even_size odd_size) new odds)
pair_spoil_even even_size odd_size place block evens odds new [] even_whole odd_whole there on unit within whole s = absurd s
pair_spoil_even even_size odd_size place block evens odds new (page ∷ []) even_whole odd_whole there on unit within whole s = elim s [
  | inl here ↦ inl (pair_spoils_even even_size even_size odd_size place block evens odds new even_whole odd_whole refl there on unit.even (omega (arith, within)) here)
  | inr behind ↦ absurd behind.2
]
pair_spoil_even even_size odd_size place block evens odds new (page ∷ other ∷ pages) even_whole odd_whole there on unit within whole s =
    let near : block % 1024 + 4 ≤ 1024 = near_next block (length pages) unit.fits in
    let inside : block + 2 ≤ pair_blocks even_size odd_size = omega (arith, within) in
    let here : place + 2 ≤ even_size = subst (λ (p : ℕ). p + 2 ≤ even_size) (sym there) (inside_even block even_size odd_size unit.even inside on) in
    elim s [
      | inl first ↦ inl (pair_spoils_even even_size even_size odd_size place block evens odds new even_whole odd_whole refl there on unit.even inside first)
      | inr w ↦ inr (
        pair_image (pair_blocks even_size odd_size) w.0 odds,
        pair_writes_even even_size even_size odd_size place block evens odds w.0 page even_whole odd_whole refl there on unit.even inside whole.0 w.1,
        pair_spoil_even even_size odd_size (place + 2) (block + 2) w.0 odds new (other ∷ pages) (whole_after evens w.0 even_size place page even_whole here whole.0 w.1) odd_whole
            (ap (λ (p : ℕ). p + 2) there ∙ sym (next_place block near)) (next_device block near ∙ on) (next_unit block page other pages unit) (omega (arith, within)) whole.1 w.2,
      )
    ]

pub pair_run_odd : (even_size odd_size place block : ℕ) (evens odds new : Option SwapImage) (pages : List (List ℕ)) → IsWhole evens even_size
    → IsWhole odds odd_size → place ≡ place_of block → device_of block ≡ 1 → InUnit block pages
    → block + 2 * length pages ≤ pair_blocks even_size odd_size → ArePages pages → WritesPages odds place pages new
    → WritesPages (pair_image (pair_blocks even_size odd_size) evens odds) block pages (pair_image (pair_blocks even_size odd_size) evens new)
pair_run_odd even_size odd_size place block evens odds new [] even_whole odd_whole there on unit within whole w =
    ap (λ (image : Option SwapImage). pair_image (pair_blocks even_size odd_size) evens image) w
pair_run_odd even_size odd_size place block evens odds new (page ∷ []) even_whole odd_whole there on unit within whole w = (
  pair_image (pair_blocks even_size odd_size) evens w.0,
  pair_writes_odd even_size odd_size odd_size place block evens odds w.0 page even_whole odd_whole refl there on unit.even (omega (arith, within)) whole.0 w.1,
  ap (λ (image : Option SwapImage). pair_image (pair_blocks even_size odd_size) evens image) w.2,
)
pair_run_odd even_size odd_size place block evens odds new (page ∷ other ∷ pages) even_whole odd_whole there on unit within whole w =
    let near : block % 1024 + 4 ≤ 1024 = near_next block (length pages) unit.fits in
    let inside : block + 2 ≤ pair_blocks even_size odd_size = omega (arith, within) in
    let here : place + 2 ≤ odd_size = subst (λ (p : ℕ). p + 2 ≤ odd_size) (sym there) (inside_odd block even_size odd_size unit.even inside on) in (
      pair_image (pair_blocks even_size odd_size) evens w.0,
      pair_writes_odd even_size odd_size odd_size place block evens odds w.0 page even_whole odd_whole refl there on unit.even inside whole.0 w.1,
      pair_run_odd even_size odd_size (place + 2) (block + 2) evens w.0 new (other ∷ pages) even_whole (whole_after odds w.0 odd_size place page odd_whole here whole.0 w.1)
          (ap (λ (p : ℕ). p + 2) there ∙ sym (next_place block near)) (next_device block near ∙ on) (next_unit block page other pages unit) (omega (arith, within)) whole.1 w.2,
    )

pub pair_spoil_odd : (even_size odd_size place block : ℕ) (evens odds new : Option SwapImage) (pages : List (List ℕ)) → IsWhole evens even_size
    → IsWhole odds odd_size → place ≡ place_of block → device_of block ≡ 1 → InUnit block pages
    → block + 2 * length pages ≤ pair_blocks even_size odd_size → ArePages pages → SpoilsPages odds place pages new
    → SpoilsPages (pair_image (pair_blocks even_size odd_size) evens odds) block pages (pair_image (pair_blocks even_size odd_size) evens new)
pair_spoil_odd even_size odd_size place block evens odds new [] even_whole odd_whole there on unit within whole s = absurd s
pair_spoil_odd even_size odd_size place block evens odds new (page ∷ []) even_whole odd_whole there on unit within whole s = elim s [
  | inl here ↦ inl (pair_spoils_odd even_size odd_size odd_size place block evens odds new even_whole odd_whole refl there on unit.even (omega (arith, within)) here)
  | inr behind ↦ absurd behind.2
]
pair_spoil_odd even_size odd_size place block evens odds new (page ∷ other ∷ pages) even_whole odd_whole there on unit within whole s =
    let near : block % 1024 + 4 ≤ 1024 = near_next block (length pages) unit.fits in
    let inside : block + 2 ≤ pair_blocks even_size odd_size = omega (arith, within) in
    let here : place + 2 ≤ odd_size = subst (λ (p : ℕ). p + 2 ≤ odd_size) (sym there) (inside_odd block even_size odd_size unit.even inside on) in
    elim s [
      | inl first ↦ inl (pair_spoils_odd even_size odd_size odd_size place block evens odds new even_whole odd_whole refl there on unit.even inside first)
      | inr w ↦ inr (
        pair_image (pair_blocks even_size odd_size) evens w.0,
        pair_writes_odd even_size odd_size odd_size place block evens odds w.0 page even_whole odd_whole refl there on unit.even inside whole.0 w.1,
        pair_spoil_odd even_size odd_size (place + 2) (block + 2) evens w.0 new (other ∷ pages) even_whole (whole_after odds w.0 odd_size place page odd_whole here whole.0 w.1)
            (ap (λ (p : ℕ). p + 2) there ∙ sym (next_place block near)) (next_device block near ∙ on) (next_unit block page other pages unit) (omega (arith, within)) whole.1 w.2,
      )
    ]

-- ---- what is beyond the pair's blocks

pub run_beyond : (place blocks size : ℕ) (old new : Option SwapImage) (pages : List (List ℕ)) → IsWhole old size → place + 2 * length pages ≤ size
    → place + 2 * length pages ≤ blocks → ArePages pages → WritesPages old place pages new → KeepsBeyond blocks old new
run_beyond place blocks size old new [] long inside within whole w = ap (bytes_beyond blocks) w
run_beyond place blocks size old new (page ∷ pages) long inside within whole w =
    let here : place + 2 ≤ size = omega (arith, inside) in
    run_beyond (place + 2) blocks size w.0 new pages (whole_after old w.0 size place page long here whole.0 w.1) (omega (arith, inside)) (omega (arith, within)) whole.1 w.2
    ∙ leaves_beyond Done place blocks size old w.0 page long here (omega (arith, within)) whole.0 (w.1, tt)

pub spoil_beyond : (place blocks size : ℕ) (old new : Option SwapImage) (pages : List (List ℕ)) → IsWhole old size → place + 2 * length pages ≤ size
    → place + 2 * length pages ≤ blocks → ArePages pages → SpoilsPages old place pages new → KeepsBeyond blocks old new
spoil_beyond place blocks size old new [] long inside within whole s = absurd s
spoil_beyond place blocks size old new (page ∷ pages) long inside within whole s =
    let here : place + 2 ≤ size = omega (arith, inside) in
    elim s [
      | inl first ↦ leaves_beyond Failed place blocks size old new page long here (omega (arith, within)) whole.0 (tt, first)
      | inr w ↦
          spoil_beyond (place + 2) blocks size w.0 new pages (whole_after old w.0 size place page long here whole.0 w.1) (omega (arith, inside)) (omega (arith, within)) whole.1 w.2
          ∙ leaves_beyond Done place blocks size old w.0 page long here (omega (arith, within)) whole.0 (w.1, tt)
    ]

-- ---- some of the pages by one call

-- two answers that are one count alike
pub counts_alike : (moved other : Moved) (old new : ℕ) → moved ≡ other → Counts other old new → Counts moved old new
counts_alike moved other old new same counted = subst (λ (m : Moved). Counts m old new) (sym same) counted

pub some_beyond : (wrote : Option ℕ) (place blocks size : ℕ) (old new : Option SwapImage) (pages : List (List ℕ)) → IsWhole old size
    → place + 2 * length pages ≤ size → place + 2 * length pages ≤ blocks → ArePages pages → WritesSomePages wrote old place pages new
    → KeepsBeyond blocks old new
some_beyond (Some count) place blocks size old new pages long inside within whole w =
    let few : length (take count pages) ≡ count = length-take-le count pages w.1 in
    let most : count ≤ length pages = w.1 in
    run_beyond place blocks size old new (take count pages) long (omega (arith, inside, few, most)) (omega (arith, within, few, most)) (pages_first count pages whole) w.2
some_beyond None place blocks size old new pages long inside within whole w = spoil_beyond place blocks size old new pages long inside within whole w

-- the pages that a device is given are the first of those that the pair is given
pub record AreFirst (block : ℕ) (here pages : List (List ℕ)) : Type 0 where
  pub front : here ≡ take (length here) pages
  pub some : 0 < length here
  pub most : length here ≤ length pages
  pub unit : InUnit block here
  pub whole : ArePages here

of_unit : (block room : ℕ) (pages : List (List ℕ)) → block % 2 ≡ 0 → 0 < room → block % 1024 + 2 * room ≤ 1024 → 0 < length pages → ArePages pages
    → AreFirst block (take room pages) pages
of_unit block room pages even room_some fits some whole =
    let long : length (take room pages) ≡ min room (length pages) = length-take room pages in
    record {
      front = sym (take_min room pages) ∙ ap (λ (n : ℕ). take n pages) (sym long);
      some = omega (arith, long, room_some, some);
      most = omega (arith, long);
      unit = record { even = even; fits = omega (arith, long, fits) };
      whole = pages_first room pages whole;
    }

pub first_of_unit : (block : ℕ) (here pages : List (List ℕ)) → here ≡ pages_of_unit block pages → block % 2 ≡ 0 → 0 < length pages → ArePages pages
    → AreFirst block here pages
first_of_unit block here pages is even some whole =
    subst (λ (front : List (List ℕ)). AreFirst block front pages) (sym is)
    (of_unit block ((1024 - block % 1024) / 2) pages even (omega (arith, even)) (omega (arith, even)) some whole)

unit_of_front : (block count : ℕ) (here : List (List ℕ)) → InUnit block here → count ≤ length here → InUnit block (take count here)
unit_of_front block count here unit few =
    let fits : block % 1024 + 2 * length here ≤ 1024 = unit.fits in
    let long : length (take count here) ≡ count = length-take-le count here few in
    record { even = unit.even; fits = omega (arith, fits, long, few) }

front_of_front : (count : ℕ) (here pages : List (List ℕ)) → here ≡ take (length here) pages → count ≤ length here → take count here ≡ take count pages
front_of_front count here pages front few = ap (take count) front ∙ take-take count (length here) pages few

pub pair_some_even : (wrote : Option ℕ) (even_size new_size odd_size place block : ℕ) (evens odds new : Option SwapImage) (here pages : List (List ℕ))
    → IsWhole evens even_size → IsWhole odds odd_size → new_size ≡ even_size → place ≡ place_of block → device_of block ≡ 0
    → AreFirst block here pages → block + 2 * length pages ≤ pair_blocks even_size odd_size → WritesSomePages wrote evens place here new
    → WritesSomePages wrote (pair_image (pair_blocks even_size odd_size) evens odds) block pages (pair_image (pair_blocks new_size odd_size) new odds)
pair_some_even (Some count) even_size new_size odd_size place block evens odds new here pages even_whole odd_whole same there on first within w =
    let few : count ≤ length here = w.1 in
    let most : length here ≤ length pages = first.most in
    let long : length (take count here) ≡ count = length-take-le count here few in
    let run : WritesPages (pair_image (pair_blocks even_size odd_size) evens odds) block (take count here) (pair_image (pair_blocks even_size odd_size) new odds) =
    pair_run_even even_size odd_size place block evens odds new (take count here) even_whole odd_whole there on (unit_of_front block count here first.unit few)
    (omega (arith, within, long, few, most)) (pages_first count here first.whole) w.2 in (
      w.0,
      omega (arith, few, most),
      subst (λ (size : ℕ). WritesPages (pair_image (pair_blocks even_size odd_size) evens odds) block (take count pages) (pair_image (pair_blocks size odd_size) new odds)) (sym same)
          (subst (λ (ps : List (List ℕ)). WritesPages (pair_image (pair_blocks even_size odd_size) evens odds) block ps (pair_image (pair_blocks even_size odd_size) new odds))
          (front_of_front count here pages first.front few) run),
    )
pair_some_even None even_size new_size odd_size place block evens odds new here pages even_whole odd_whole same there on first within s =
    let most : length here ≤ length pages = first.most in
    let run : SpoilsPages (pair_image (pair_blocks even_size odd_size) evens odds) block here (pair_image (pair_blocks even_size odd_size) new odds) =
    pair_spoil_even even_size odd_size place block evens odds new here even_whole odd_whole there on first.unit (omega (arith, within, most)) first.whole s in
    subst (λ (size : ℕ). SpoilsPages (pair_image (pair_blocks even_size odd_size) evens odds) block pages (pair_image (pair_blocks size odd_size) new odds)) (sym same)
    (spoils_first (length here) (pair_image (pair_blocks even_size odd_size) evens odds) (pair_image (pair_blocks even_size odd_size) new odds) block pages
    (subst (λ (ps : List (List ℕ)). SpoilsPages (pair_image (pair_blocks even_size odd_size) evens odds) block ps (pair_image (pair_blocks even_size odd_size) new odds)) first.front run))

pub pair_some_odd : (wrote : Option ℕ) (even_size odd_size new_size place block : ℕ) (evens odds new : Option SwapImage) (here pages : List (List ℕ))
    → IsWhole evens even_size → IsWhole odds odd_size → new_size ≡ odd_size → place ≡ place_of block → device_of block ≡ 1
    → AreFirst block here pages → block + 2 * length pages ≤ pair_blocks even_size odd_size → WritesSomePages wrote odds place here new
    → WritesSomePages wrote (pair_image (pair_blocks even_size odd_size) evens odds) block pages (pair_image (pair_blocks even_size new_size) evens new)
pair_some_odd (Some count) even_size odd_size new_size place block evens odds new here pages even_whole odd_whole same there on first within w =
    let few : count ≤ length here = w.1 in
    let most : length here ≤ length pages = first.most in
    let long : length (take count here) ≡ count = length-take-le count here few in
    let run : WritesPages (pair_image (pair_blocks even_size odd_size) evens odds) block (take count here) (pair_image (pair_blocks even_size odd_size) evens new) =
    pair_run_odd even_size odd_size place block evens odds new (take count here) even_whole odd_whole there on (unit_of_front block count here first.unit few)
    (omega (arith, within, long, few, most)) (pages_first count here first.whole) w.2 in (
      w.0,
      omega (arith, few, most),
      subst (λ (size : ℕ). WritesPages (pair_image (pair_blocks even_size odd_size) evens odds) block (take count pages) (pair_image (pair_blocks even_size size) evens new)) (sym same)
          (subst (λ (ps : List (List ℕ)). WritesPages (pair_image (pair_blocks even_size odd_size) evens odds) block ps (pair_image (pair_blocks even_size odd_size) evens new))
          (front_of_front count here pages first.front few) run),
    )
pair_some_odd None even_size odd_size new_size place block evens odds new here pages even_whole odd_whole same there on first within s =
    let most : length here ≤ length pages = first.most in
    let run : SpoilsPages (pair_image (pair_blocks even_size odd_size) evens odds) block here (pair_image (pair_blocks even_size odd_size) evens new) =
    pair_spoil_odd even_size odd_size place block evens odds new here even_whole odd_whole there on first.unit (omega (arith, within, most)) first.whole s in
    subst (λ (size : ℕ). SpoilsPages (pair_image (pair_blocks even_size odd_size) evens odds) block pages (pair_image (pair_blocks even_size size) evens new)) (sym same)
    (spoils_first (length here) (pair_image (pair_blocks even_size odd_size) evens odds) (pair_image (pair_blocks even_size odd_size) evens new) block pages
    (subst (λ (ps : List (List ℕ)). SpoilsPages (pair_image (pair_blocks even_size odd_size) evens odds) block ps (pair_image (pair_blocks even_size odd_size) evens new)) first.front run))
