-- The oldest transfer after its device: the same pages and frames, with the bytes that were read.
use Rattle.std.proofs.Common.{◌≡◌, ◌≢◌, inl, inr, ℕ, ◌+◌, ◌-◌, ◌<◌, ◌≤◌, List, [], ◌∷◌, ◌++◌, length, map, Option, Some, refl, sym, ap, ◌∙◌, subst, arith, append_assoc}
use Rattle.std.specs.List.{range_with_len}
use Rattle.std.proofs.lemmas.Bool.{cases_eq}
use Rattle.std.proofs.lemmas.Bool.Decides.{nat_tests}
use Rattle.std.proofs.lemmas.List.{map-append}
use Rattle.vm_facts.specs.declared.page.Page.{Page}
use Rattle.core_map.specs.declared.slot.Slot.{Slot as Token}
use Rattle.core_map.specs.declared.slot.Slot.TheVariants as tokens
use Rattle.core_map.specs.Slots.{slot_at}
use Rattle.transfer_ring.specs.declared.transfer.Inbound.{Inbound}
use Rattle.transfer_ring.specs.declared.transfer.Outbound.{Outbound}
use Rattle.transfer_ring.specs.declared.transfer.Transfer.{Transfer as Flight}
use Rattle.transfer_ring.specs.declared.transfer.Transfer.TheVariants as flights
use Rattle.transfer_ring.specs.Parts.{AreSameParts}
use Rattle.transfer_ring.specs.Ending.{IsSameRead}
use Rattle.page_model.specs.Frames.{set_frame, at_frame}
use Rattle.vm_facts.specs.Lists.{times}
use Rattle.page_model.specs.Placement.{Placement, Transfer, Part, Reads, Moving, moving, parts_of, flying, IsFrame}
use Rattle.page_model.specs.Ownership.{OwnsFrames, TextAside, Each, IsMoving}
use Rattle.kernel_model.specs.Kernel.{read_into, landed_by}
use Rattle.vm_facts.proofs.Lists.{times-append, times_other, times_head}
use Rattle.table_steps.proofs.Others.{each_front}
use Rattle.table_steps.specs.Tables.{Tables}
use Rattle.table_steps.specs.View.{Lists, Flown, flown_number, flown_at, source_of, source_shown, in_part, inbound_flown, outbound_flown, transfer_shown, flown_in, flown, page_by, bytes_by, page_flown, bytes_flown, page_held, bytes_held, placement_of, frames_of}
use Rattle.table_steps.specs.Known.{Known}
use Rattle.table_steps.specs.Moves.{ending}
use Rattle.table_steps.proofs.Shows.{frames_set}
use Rattle.table_steps.proofs.Held.{bytes_at, holds_length, placement_ext}
use Rattle.table_steps.proofs.Evicts.{frames_same}
use Rattle.table_steps.proofs.Flights.{InFlight, in_flight}

hit : (y : Flown) (xs : List Flown) (f : ℕ) → flown_number y ≡ f → flown_at (y ∷ xs) f ≡ Some y
hit y xs f e = grind (arith, nat_tests)

miss : (y : Flown) (xs : List Flown) (f : ℕ) → flown_number y ≢ f → flown_at (y ∷ xs) f ≡ flown_at xs f
miss y xs f e = grind (arith, nat_tests)

count_hit : (n f : ℕ) (ns : List ℕ) → n ≡ f → times f (n ∷ ns) ≡ 1 + times f ns
count_hit n f ns e = grind (arith, nat_tests)

-- The same pages in the same frames.

abbrev pub SameFlown : List Flown → List Flown → Type 0
SameFlown [] [] = Unit {0}
SameFlown (x ∷ xs) (y ∷ ys) = (y.page ≡ x.page) × (y.token.number ≡ x.token.number) × SameFlown xs ys
SameFlown xs ys = ⊥

same_parts_flown : (xs ys : List Inbound) → AreSameParts xs ys → SameFlown (map inbound_flown xs) (map inbound_flown ys)
same_parts_flown [] [] h = tt
same_parts_flown [] (y ∷ ys) h = h
same_parts_flown (x ∷ xs) [] h = h
same_parts_flown (x ∷ xs) (y ∷ ys) h = (h.0.page, h.0.frame, same_parts_flown xs ys h.1)

self_flown : (xs : List Flown) → SameFlown xs xs
self_flown [] = tt
self_flown (x ∷ xs) = (refl, refl, self_flown xs)

flown_pages : (xs ys r : List Flown) (f : ℕ) → SameFlown xs ys → page_flown (flown_at (ys ++ r) f) ≡ page_flown (flown_at (xs ++ r) f)
flown_pages [] [] r f h = refl
flown_pages [] (y ∷ ys) r f h = absurd h
flown_pages (x ∷ xs) [] r f h = absurd h
flown_pages (x ∷ xs) (y ∷ ys) r f h = elim (cases_eq (flown_number x) f) [
  | inl e ↦ ap page_flown (hit y (ys ++ r) f (h.1 ∙ e)) ∙ ap (λ (q : Page). Some q) h.0 ∙ sym (ap page_flown (hit x (xs ++ r) f e))
  | inr d ↦ ap page_flown (miss y (ys ++ r) f (λ k. d (sym h.1 ∙ k))) ∙ flown_pages xs ys r f h.2 ∙ sym (ap page_flown (miss x (xs ++ r) f d))
]

same_numbers : (xs ys r : List Flown) → SameFlown xs ys → map flown_number (ys ++ r) ≡ map flown_number (xs ++ r)
same_numbers [] [] r h = refl
same_numbers [] (y ∷ ys) r h = absurd h
same_numbers (x ∷ xs) [] r h = absurd h
same_numbers (x ∷ xs) (y ∷ ys) r h = ap (λ (n : ℕ). n ∷ map flown_number (ys ++ r)) h.1 ∙ ap (λ (ns : List ℕ). x.token.number ∷ ns) (same_numbers xs ys r h.2)

same_parts : (xs ys : List Inbound) → AreSameParts xs ys → map in_part ys ≡ map in_part xs
same_parts [] [] h = refl
same_parts [] (y ∷ ys) h = absurd h
same_parts (x ∷ xs) [] h = absurd h
same_parts (x ∷ xs) (y ∷ ys) h =
    ap (λ (q : Page). record { page = q; frame = y.token.number } ∷ map in_part ys) h.0.page
    ∙ ap (λ (n : ℕ). record { page = x.page; frame = n } ∷ map in_part ys) h.0.frame
    ∙ ap (λ (ps : List Part). in_part x ∷ ps) (same_parts xs ys h.1)

same_source : (xs ys : List Inbound) → AreSameParts xs ys → source_shown ys ≡ source_shown xs
same_source [] [] h = refl
same_source [] (y ∷ ys) h = absurd h
same_source (x ∷ xs) [] h = absurd h
same_source (x ∷ xs) (y ∷ ys) h = ap source_of h.0.source

-- how the oldest transfer comes back
abbrev pub IsBack : Flight → Flight → Type 0
IsBack (flights.Read demanded parts) n = IsSameRead demanded parts.items n
IsBack (flights.Write parts) n = n ≡ flights.Write parts

pub record Alike (o n : Flight) : Type 0 where
  pub shown : transfer_shown n ≡ transfer_shown o
  pub same : SameFlown (flown_in o) (flown_in n)

pub alike : (o n : Flight) → IsBack o n → Alike o n
alike (flights.Write parts) n b =
    record { shown = ap transfer_shown b; same = subst (λ (y : Flight). SameFlown (map outbound_flown parts.items) (flown_in y)) (sym b) (self_flown (map outbound_flown parts.items)) }
alike (flights.Read demanded parts) (flights.Write news) b = absurd b
alike (flights.Read demanded parts) (flights.Read page news) b = record {
  shown = ap (λ (s : Rattle.page_model.specs.Placement.Source). let z : Transfer = record { errand = Reads s page; parts = map in_part news.items } in z) (same_source parts.items news.items b.1)
      ∙ ap (λ (q : Page). let z : Transfer = record { errand = Reads (source_shown parts.items) q; parts = map in_part news.items } in z) b.0
      ∙ ap (λ (ps : List Part). let z : Transfer = record { errand = Reads (source_shown parts.items) demanded; parts = ps } in z) (same_parts parts.items news.items b.1);
  same = same_parts_flown parts.items news.items b.1;
}

pub ending_place : (t : Tables) (o n : Flight) → Alike o n → placement_of (ending t n) ≡ placement_of (ending t o)
ending_place t o n a = placement_ext (placement_of (ending t n)) (placement_of (ending t o)) refl refl
    (frames_same (page_held (ending t o)) (page_held (ending t n)) (range_with_len 1 (length t.core.slots - 1)) (λ g. by (slot_at t.core.slots g) g))
    refl (ap (λ (x : Transfer). x ∷ map transfer_shown t.ring) a.shown) refl refl refl refl
  where
    by : (s : Token) (g : ℕ) → page_by s (flown_at (flown_in n ++ flown t.ring) g) ≡ page_by s (flown_at (flown_in o ++ flown t.ring) g)
    by (tokens.Free token page) g = refl
    by (tokens.Resident token page dirty) g = refl
    by tokens.Away g = flown_pages (flown_in o) (flown_in n) (flown t.ring) g a.same

pub ending_known : (t : Tables) (o n : Flight) → Alike o n → Known (ending t o) → Known (ending t n)
ending_known t o n a k = record {
  core = k.core;
  owns = subst OwnsFrames (sym (ending_place t o n a)) k.owns;
  aside = subst TextAside (sym (ending_place t o n a)) k.aside;
  tied = record {
    few_frames = k.tied.few_frames;
    few_images = k.tied.few_images;
    few_pages = k.tied.few_pages;
    sound = k.tied.sound;
    small_texts = k.tied.small_texts;
    shared = k.tied.shared;
    alike = k.tied.alike;
    filled = k.tied.filled;
    counted = k.tied.counted;
    marked = k.tied.marked;
    whole = k.tied.whole;
    once = k.tied.once;
  };
  differ = k.differ;
  numbers = ap (λ (x : Transfer). flying (parts_of (x ∷ map transfer_shown t.ring))) a.shown ∙ k.numbers ∙ sym (same_numbers (flown_in o) (flown_in n) (flown t.ring) a.same);
}

-- The bytes of the frames.

-- the frame's token is away
pub record Flies (t : Lists) (f : ℕ) : Type 0 where
  pub away : slot_at t.slots f ≡ tokens.Away
  pub above : 0 < f
  pub below : f < length t.slots

abbrev pub AllFly : Lists → List ℕ → Type 0
AllFly t [] = Unit {0}
AllFly t (f ∷ fs) = Flies t f × AllFly t fs

abbrev pub Once : Lists → List Flown → Type 0
Once t xs = (f : ℕ) → 0 < f → f < length t.slots → times f (map flown_number xs) ≤ 1

all_fly : (t : Lists) (ms : List Moving) → Known t → Each (IsMoving (placement_of t)) ms → AllFly t (flying ms)
all_fly t [] k h = tt
all_fly t (m ∷ ms) k h =
    let g : InFlight t m.page m.frame = in_flight t m.page m.errand m.frame k h.0 in
    (record { away = g.away; above = g.above; below = g.below }, all_fly t ms k h.1)

pub first_fly : (t : Tables) (o : Flight) → Known (ending t o) → AllFly (ending t o) (flying (map (moving (transfer_shown o).errand) (transfer_shown o).parts))
first_fly t o k = all_fly (ending t o) (map (moving (transfer_shown o).errand) (transfer_shown o).parts) k
    (each_front (IsMoving (placement_of (ending t o))) (map (moving (transfer_shown o).errand) (transfer_shown o).parts) (parts_of (map transfer_shown t.ring)) k.owns.moves)

pub flown_once : (t : Lists) → Known t → Once t t.flown
flown_once t k f above below =
    let a : IsFrame (placement_of t) f = (above, let h = holds_length t in omega arith) in
    let b = k.owns.once f a in
    let c : times f (flying (parts_of t.transfers)) ≡ times f (map flown_number t.flown) = ap (times f) k.numbers in
    omega arith

flown_mid : (pre ys : List Flown) (y : Flown) (f : ℕ) → flown_number y ≡ f → times f (map flown_number pre) ≡ 0 → flown_at (pre ++ y ∷ ys) f ≡ Some y
flown_mid [] ys y f e z = hit y ys f e
flown_mid (x ∷ xs) ys y f e z = elim (cases_eq (flown_number x) f) [
  | inl i ↦ absurd (let h = count_hit (flown_number x) f (map flown_number xs) i in omega arith)
  | inr d ↦ miss x (xs ++ y ∷ ys) f d ∙ flown_mid xs ys y f e (sym (times_other f (flown_number x) (map flown_number xs) d) ∙ z)
]

flown_swap : (pre ys : List Flown) (x y : Flown) (g : ℕ) → flown_number x ≢ g → flown_number y ≢ g → flown_at (pre ++ y ∷ ys) g ≡ flown_at (pre ++ x ∷ ys) g
flown_swap [] ys x y g a b = miss y ys g b ∙ sym (miss x ys g a)
flown_swap (z ∷ zs) ys x y g a b = elim (cases_eq (flown_number z) g) [
  | inl i ↦ hit z (zs ++ y ∷ ys) g i ∙ sym (hit z (zs ++ x ∷ ys) g i)
  | inr d ↦ miss z (zs ++ y ∷ ys) g d ∙ flown_swap zs ys x y g a b ∙ sym (miss z (zs ++ x ∷ ys) g d)
]

before_none : (pre ys : List Flown) (y : Flown) → times (flown_number y) (map flown_number (pre ++ y ∷ ys)) ≤ 1
    → times (flown_number y) (map flown_number pre) ≡ 0
before_none pre ys y h =
    let f : ℕ = flown_number y in
    let a : times f (map flown_number (pre ++ y ∷ ys)) ≡ times f (map flown_number pre) + times f (f ∷ map flown_number ys) =
    ap (times f) (map-append flown_number pre (y ∷ ys)) ∙ times-append f (map flown_number pre) (f ∷ map flown_number ys) in
    let b = times_head f (map flown_number ys) in
    omega arith

abbrev with_flown : Lists → List Flown → Lists
with_flown t xs = record t { flown = xs }

pub reads_into : (olds news : List Inbound) (t : Lists) (pre post : List Flown) → AreSameParts olds news
    → AllFly t (map flown_number (map inbound_flown olds)) → Once t (pre ++ (map inbound_flown olds ++ post))
    → frames_of (with_flown t (pre ++ (map inbound_flown news ++ post)))
    ≡ read_into (map in_part olds) (map (λ (x : Inbound). x.token.bytes) news) (frames_of (with_flown t (pre ++ (map inbound_flown olds ++ post))))
reads_into [] [] t pre post h a o = refl
reads_into [] (n ∷ ns) t pre post h a o = absurd h
reads_into (x ∷ xs) [] t pre post h a o = absurd h
reads_into (x ∷ xs) (n ∷ ns) t pre post h a o =
    let f : ℕ = x.token.number in
    let ys : List Flown = map inbound_flown xs ++ post in
    let zs : List Flown = map inbound_flown ns ++ post in
    let was : Flown = inbound_flown x in
    let now : Flown = inbound_flown n in
    let A : Lists = with_flown t (pre ++ was ∷ ys) in
    let B : Lists = with_flown t (pre ++ now ∷ ys) in
    let none : times f (map flown_number pre) ≡ 0 = before_none pre ys was (o f a.0.above a.0.below) in
    let here : bytes_held B f ≡ n.token.bytes = ap (λ (s : Token). bytes_by s (flown_at (pre ++ now ∷ ys) f)) a.0.away ∙ ap bytes_flown (flown_mid pre ys now f h.0.frame none) in
    let one : frames_of B ≡ set_frame (frames_of A) f n.token.bytes =
    frames_set [] (bytes_held A) (bytes_held B) (length t.slots - 1) f
    (λ g d. ap (λ (y : Option Flown). bytes_by (slot_at t.slots g) y) (flown_swap pre ys was now g (λ e. d (sym e)) (λ e. d (sym e ∙ h.0.frame))))
    ∙ ap (set_frame (frames_of A) f) here in
    let same : map flown_number (now ∷ ys) ≡ map flown_number (was ∷ ys) = ap (λ (m : ℕ). m ∷ map flown_number ys) h.0.frame in
    let left : Once t ((pre ++ now ∷ []) ++ ys) = λ g l m. subst (λ (ns : List ℕ). times g ns ≤ 1) (sym (ap (map flown_number) (append_assoc pre (now ∷ []) ys) ∙ map-append flown_number pre (now ∷ ys)
    ∙ ap (λ (ns : List ℕ). map flown_number pre ++ ns) same ∙ sym (map-append flown_number pre (was ∷ ys)))) (o g l m) in
    ap (λ (fs : List Flown). frames_of (with_flown t fs)) (sym (append_assoc pre (now ∷ []) zs))
    ∙ reads_into xs ns t (pre ++ now ∷ []) post h.1 a.1 left
    ∙ ap (λ (fs : List Flown). read_into (map in_part xs) (map (λ (y : Inbound). y.token.bytes) ns) (frames_of (with_flown t fs))) (append_assoc pre (now ∷ []) ys)
    ∙ ap (read_into (map in_part xs) (map (λ (y : Inbound). y.token.bytes) ns)) one

-- what a transfer brings: of a read the bytes of its pages
abbrev pub brought : Flight → List (List ℕ)
brought (flights.Read demanded parts) = map (λ (x : Inbound). x.token.bytes) parts.items
brought (flights.Write parts) = []

pub ending_frames : (t : Tables) (o n : Flight) → IsBack o n → Known (ending t o)
    → frames_of (ending t n) ≡ landed_by (transfer_shown o).errand (transfer_shown o).parts (brought n) (frames_of (ending t o))
ending_frames t (flights.Write parts) n b k = ap (λ (x : Flight). frames_of (ending t x)) b
ending_frames t (flights.Read demanded parts) (flights.Write news) b k = absurd b
ending_frames t (flights.Read demanded parts) (flights.Read page news) b k =
    let o : Flight = flights.Read demanded parts in
    reads_into parts.items news.items (ending t o) [] (flown t.ring) b.1 (subst (AllFly (ending t o)) (numbers parts.items) (first_fly t o k)) (flown_once (ending t o) k)
  where
    numbers : (xs : List Inbound) → flying (map (moving (Reads (source_shown parts.items) demanded)) (map in_part xs)) ≡ map flown_number (map inbound_flown xs)
    numbers [] = refl
    numbers (x ∷ xs) = ap (λ (ns : List ℕ). x.token.number ∷ ns) (numbers xs)

-- the bytes of each page of a write
abbrev pub AreBytes : List (List ℕ) → List Outbound → Type 0
AreBytes frames [] = Unit {0}
AreBytes frames (x ∷ xs) = (at_frame frames x.token.number [] ≡ x.token.bytes) × AreBytes frames xs

write_bytes : (xs : List Outbound) (t : Lists) (pre post : List Flown) → t.flown ≡ pre ++ (map outbound_flown xs ++ post)
    → AllFly t (map flown_number (map outbound_flown xs)) → Once t t.flown → AreBytes (frames_of t) xs
write_bytes [] t pre post e a o = tt
write_bytes (x ∷ xs) t pre post e a o =
    let f : ℕ = x.token.number in
    let y : Flown = outbound_flown x in
    let ys : List Flown = map outbound_flown xs ++ post in
    let none : times f (map flown_number pre) ≡ 0 = before_none pre ys y (subst (λ (fs : List Flown). times f (map flown_number fs) ≤ 1) e (o f a.0.above a.0.below)) in (
      bytes_at t f a.0.above a.0.below ∙ ap (λ (s : Token). bytes_by s (flown_at t.flown f)) a.0.away ∙ ap (λ (fs : List Flown). bytes_flown (flown_at fs f)) e
          ∙ ap bytes_flown (flown_mid pre ys y f refl none),
      write_bytes xs t (pre ++ y ∷ []) post (e ∙ sym (append_assoc pre (y ∷ []) ys)) a.1 o,
    )

pub written_bytes : (t : Tables) (xs : List Outbound) (o : Flight) → flown_in o ≡ map outbound_flown xs
    → flying (map (moving (transfer_shown o).errand) (transfer_shown o).parts) ≡ map flown_number (map outbound_flown xs) → Known (ending t o)
    → AreBytes (frames_of (ending t o)) xs
written_bytes t xs o e n k =
    write_bytes xs (ending t o) [] (flown t.ring) (ap (λ (fs : List Flown). fs ++ flown t.ring) e) (subst (AllFly (ending t o)) n (first_fly t o k)) (flown_once (ending t o) k)
