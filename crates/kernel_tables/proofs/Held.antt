-- The page and the bytes of a frame, and the tokens in flight.
use Rattle.std.proofs.Common.{◌≡◌, ◌≢◌, inl, inr, ℕ, zero, suc, ◌+◌, ◌-◌, ◌<◌, ◌≤◌, List, [], ◌∷◌, ◌++◌, length, map, get_or, Option, Some, None, refl, sym, ap, ◌∙◌, subst, arith}
use Rattle.std.proofs.lemmas.Bool.{cases_eq}
use Rattle.std.proofs.lemmas.Bool.Decides.{nat_tests}
use Rattle.std.proofs.lemmas.List.{get_or_past, map-append}
use Rattle.std.proofs.lemmas.List.FromFn.{get_or-map-range_with_len, length-map-range_with_len}
use Rattle.vm_facts.specs.declared.page.Page.{Page}
use Rattle.core_map.specs.declared.slot.Slot.{Slot as Token}
use Rattle.core_map.specs.declared.slot.Slot.TheVariants as tokens
use Rattle.core_map.specs.Slots.{slot_at}
use Rattle.core_map.specs.Frames.{IsSoundMap}
use Rattle.transfer_ring.specs.declared.transfer.Inbound.{Inbound}
use Rattle.transfer_ring.specs.declared.transfer.Outbound.{Outbound}
use Rattle.transfer_ring.specs.declared.transfer.Transfer.{Transfer as Flight}
use Rattle.transfer_ring.specs.declared.transfer.Transfer.TheVariants as flights
use Rattle.page_model.specs.Frames.{at_frame}
use Rattle.vm_facts.specs.Lists.{times}
use Rattle.page_model.specs.Pages.{SpacePages, TextPages}
use Rattle.page_model.specs.Placement.{Placement, Transfer, Errand, Residence, Due, Writes, Reads, moving, parts_of, flying, page_of}
use Rattle.kernel_laws.proofs.Frames.{flying-append}
use Rattle.vm_facts.proofs.Lists.{times_other}
use Rattle.kernel_tables.specs.View.{Lists, Flown, flown_number, inbound_flown, outbound_flown, in_part, out_part, source_shown, transfer_shown, flown, flown_in, flown_at, page_held, bytes_held, placement_of, frames_of}

pub held_at : (t : Lists) (f : ℕ) → 0 < f → f < length t.slots → page_of (placement_of t) f ≡ page_held t f
held_at t zero l m = absurd (omega arith)
held_at t (suc f) l m = get_or-map-range_with_len (page_held t) 1 (length t.slots - 1) f (suc f) None (omega arith) (omega arith)

pub bytes_at : (t : Lists) (f : ℕ) → 0 < f → f < length t.slots → at_frame (frames_of t) f [] ≡ bytes_held t f
bytes_at t zero l m = absurd (omega arith)
bytes_at t (suc f) l m = get_or-map-range_with_len (bytes_held t) 1 (length t.slots - 1) f (suc f) [] (omega arith) (omega arith)

pub holds_length : (t : Lists) → length (placement_of t).holds ≡ length t.slots - 1
holds_length t = length-map-range_with_len (page_held t) 1 (length t.slots - 1)

-- a frame whose slot isn't away is a frame
pub above_zero : (free : List ℕ) (slots : List Token) (f : ℕ) → IsSoundMap free slots → slot_at slots f ≢ tokens.Away → 0 < f
above_zero free slots f c n = elim (cases_eq f 0) [
  | inl e ↦ absurd (n (ap (slot_at slots) e ∙ c.none))
  | inr m ↦ omega arith
]

pub below_length : (slots : List Token) (f : ℕ) → slot_at slots f ≢ tokens.Away → f < length slots
below_length slots f n =
    let within : (a b : ℕ) → Rattle.std.proofs.Common.◌⊎◌ (a < b) (b ≤ a) = λ a b. grind arith in
    elim (within f (length slots)) [
      | inl l ↦ l
      | inr m ↦ absurd (n (get_or_past slots f tokens.Away m))
    ]

-- In flight.

pub flown_hit : (x : Flown) (xs : List Flown) (f : ℕ) → flown_number x ≡ f → flown_at (x ∷ xs) f ≡ Some x
flown_hit x xs f e = grind (arith, nat_tests)

pub flown_miss : (x : Flown) (xs : List Flown) (f : ℕ) → flown_number x ≢ f → flown_at (x ∷ xs) f ≡ flown_at xs f
flown_miss x xs f n = grind (arith, nat_tests)

count_hit : (n f : ℕ) (ns : List ℕ) → n ≡ f → times f (n ∷ ns) ≡ 1 + times f ns
count_hit n f ns e = grind (arith, nat_tests)

in_numbers : (e : Errand) (xs : List Inbound) → flying (map (moving e) (map in_part xs)) ≡ map flown_number (map inbound_flown xs)
in_numbers e [] = refl
in_numbers e (x ∷ xs) = ap (λ (ns : List ℕ). x.token.number ∷ ns) (in_numbers e xs)

out_numbers : (e : Errand) (xs : List Outbound) → flying (map (moving e) (map out_part xs)) ≡ map flown_number (map outbound_flown xs)
out_numbers e [] = refl
out_numbers e (x ∷ xs) = ap (λ (ns : List ℕ). x.token.number ∷ ns) (out_numbers e xs)

-- the numbers of the tokens of one transfer
pub one_numbers : (t : Flight) → flying (map (moving (transfer_shown t).errand) (transfer_shown t).parts) ≡ map flown_number (flown_in t)
one_numbers (flights.Read demanded parts) = in_numbers (Reads (source_shown parts.items) demanded) parts.items
one_numbers (flights.Write parts) = out_numbers Writes parts.items

pub flown_numbers : (ts : List Flight) → flying (parts_of (map transfer_shown ts)) ≡ map flown_number (flown ts)
flown_numbers [] = refl
flown_numbers (t ∷ ts) =
    flying-append (map (moving (transfer_shown t).errand) (transfer_shown t).parts) (parts_of (map transfer_shown ts))
    ∙ ap (λ (ns : List ℕ). ns ++ flying (parts_of (map transfer_shown ts))) (one_numbers t)
    ∙ ap (λ (ns : List ℕ). map flown_number (flown_in t) ++ ns) (flown_numbers ts)
    ∙ sym (map-append flown_number (flown_in t) (flown ts))

pub not_flown : (xs : List Flown) (f : ℕ) → times f (map flown_number xs) ≡ 0 → flown_at xs f ≡ None
not_flown [] f z = refl
not_flown (x ∷ xs) f z = elim (cases_eq (flown_number x) f) [
  | inl e ↦ absurd (let h = count_hit (flown_number x) f (map flown_number xs) e in omega arith)
  | inr n ↦ flown_miss x xs f n ∙ not_flown xs f (sym (times_other f (flown_number x) (map flown_number xs) n) ∙ z)
]

-- one more token in flight
pub flown_more : (xs : List Flown) (x : Flown) (g : ℕ) → g ≢ flown_number x → flown_at (xs ++ x ∷ []) g ≡ flown_at xs g
flown_more [] x g n = flown_miss x [] g (λ e. n (sym e))
flown_more (y ∷ ys) x g n = elim (cases_eq (flown_number y) g) [
  | inl e ↦ flown_hit y (ys ++ x ∷ []) g e ∙ sym (flown_hit y ys g e)
  | inr d ↦ flown_miss y (ys ++ x ∷ []) g d ∙ flown_more ys x g n ∙ sym (flown_miss y ys g d)
]

pub flown_last : (xs : List Flown) (x : Flown) → times (flown_number x) (map flown_number xs) ≡ 0 → flown_at (xs ++ x ∷ []) (flown_number x) ≡ Some x
flown_last [] x z = flown_hit x [] (flown_number x) refl
flown_last (y ∷ ys) x z = elim (cases_eq (flown_number y) (flown_number x)) [
  | inl e ↦ absurd (let h = count_hit (flown_number y) (flown_number x) (map flown_number ys) e in omega arith)
  | inr n ↦ flown_miss y (ys ++ x ∷ []) (flown_number x) n ∙ flown_last ys x (sym (times_other (flown_number x) (flown_number y) (map flown_number ys) n) ∙ z)
]

-- Placements that are the same in each part.
pub placement_ext : (a b : Placement) → a.spaces ≡ b.spaces → a.texts ≡ b.texts → a.holds ≡ b.holds → a.free ≡ b.free → a.transfers ≡ b.transfers
    → a.front ≡ b.front → a.back ≡ b.back → a.residents ≡ b.residents → a.due ≡ b.due → a ≡ b
placement_ext a b e1 e2 e3 e4 e5 e6 e7 e8 e9 =
    ap (λ (x : List SpacePages). record a { spaces = x }) e1
    ∙ ap (λ (x : List TextPages). record a { spaces = b.spaces; texts = x }) e2
    ∙ ap (λ (x : List (Option Page)). record a { spaces = b.spaces; texts = b.texts; holds = x }) e3
    ∙ ap (λ (x : List ℕ). record a { spaces = b.spaces; texts = b.texts; holds = b.holds; free = x }) e4
    ∙ ap (λ (x : List Transfer). record a { spaces = b.spaces; texts = b.texts; holds = b.holds; free = b.free; transfers = x }) e5
    ∙ ap (λ (x : ℕ). record b { front = x; back = a.back; residents = a.residents; due = a.due }) e6
    ∙ ap (λ (x : ℕ). record b { back = x; residents = a.residents; due = a.due }) e7
    ∙ ap (λ (x : List Residence). record b { residents = x; due = a.due }) e8
    ∙ ap (λ (x : List Due). record b { due = x }) e9
