-- The token of a frame that a page holds off the free list.
use Rattle.std.proofs.Common.{◌≡◌, inl, inr, ℕ, ◌<◌, Bool, true, false, ltb, IsTrue, Some, refl, sym, ap, ◌∙◌, arith}
use Rattle.std.proofs.lemmas.Bool.Decides.{nat_tests}
use Rattle.std.proofs.lemmas.Option.{same_Some}
use Rattle.vm_facts.specs.declared.page.Page.{Page}
use Rattle.vm_facts.specs.declared.page.PageState.{PageState}
use Rattle.vm_facts.specs.declared.page.PageState.TheVariants.{Unfilled, Valid, Invalid, Coming, Going, OnSwap}
use Rattle.vm_facts.specs.Lists.{times}
use Rattle.frame_state.specs.Frame.{Frame}
use Rattle.core_map.specs.declared.slot.Slot.{Slot as Token}
use Rattle.core_map.specs.declared.slot.Slot.TheVariants as tokens
use Rattle.core_map.specs.Slots.{slot_at, listings, is_resident, is_slot_dirty as token_dirty, slot_page as token_page}
use Rattle.core_map.specs.Frames.{Frames}
use Rattle.page_model.specs.Pages.{frame_of}
use Rattle.page_model.specs.Placement.{Placement, IsFrame, state_of, page_of, is_dirty, parts_of, flying}
use Rattle.page_model.specs.Conditions.{IsSeated}
use Rattle.page_model.specs.Ownership.{OwnsFrames, seats}
use Rattle.page_laws.proofs.Lists.Local.{none_some}
use Rattle.page_laws.proofs.Moves.Steps.{frame_in, once_at}
use Rattle.page_laws.proofs.Ownership.Pages.{seated_alone, seated_frame}
use Rattle.kluster_io.specs.TableViewShown.{is_away}
use Rattle.paging_units.specs.Showing.{ShowsCore}

-- the page's token is in its slot
pub record HasToken (core : Frames) (f : ℕ) (q : Page) : Type 0 where
  pub token : Frame
  pub mark : Bool
  pub slot : slot_at core.slots f ≡ tokens.Resident token q mark

no_moves : (n : ℕ) → false ≡ ltb 0 n → n ≡ 0
no_moves n e = grind (arith, nat_tests)

some_moves : (n : ℕ) → true ≡ ltb 0 n → 0 < n
some_moves n e = grind (arith, nat_tests)

pub resident_token : (core : Frames) (f : ℕ) (q : Page) → IsTrue (is_resident (slot_at core.slots f))
    → token_page (slot_at core.slots f) ≡ Some q → HasToken core f q
resident_token core f q r e = go (slot_at core.slots f) refl
  where
    go : (s : Token) → slot_at core.slots f ≡ s → HasToken core f q
    go (tokens.Free token page) h = absurd (let x : true ≡ false = sym r ∙ ap is_resident h in cc)
    go tokens.Away h = absurd (let x : true ≡ false = sym r ∙ ap is_resident h in cc)
    go (tokens.Resident token page mark) h =
        let same : page ≡ q = same_Some page q (sym (ap token_page h) ∙ e) in
        record { token = token; mark = mark; slot = h ∙ ap (λ (r : Page). tokens.Resident token r mark) same }

pub seat_token : (p : Placement) (core : Frames) (q : Page) (f : ℕ) → OwnsFrames p → ShowsCore p core → IsSeated p q f → HasToken core f q
seat_token p core q f o shows s = go (slot_at core.slots f) refl
  where
    alone : (times f p.free ≡ 0) × (times f (flying (parts_of p.transfers)) ≡ 0)
    alone = seated_alone p q f o s

    held : page_of p f ≡ Some q
    held = o.names q f (seated_frame p q f s)

    within : IsFrame p f
    within = frame_in p q f held

    go : (x : Token) → slot_at core.slots f ≡ x → HasToken core f q
    go (tokens.Free token page) h =
        let l = shows.listed f ∙ ap listings h in
        let same = ap (times f) shows.free in
        let a = alone.0 in
        absurd (omega arith)
    go tokens.Away h =
        let l : 0 < times f (flying (parts_of p.transfers)) = some_moves (times f (flying (parts_of p.transfers))) (sym (ap is_away h) ∙ shows.away f within) in
        let a = alone.1 in
        absurd (omega arith)
    go (tokens.Resident token page mark) h =
        let same : page ≡ q = same_Some page q (sym (shows.kept f token page mark h).0 ∙ held) in
        record { token = token; mark = mark; slot = h ∙ ap (λ (r : Page). tokens.Resident token r mark) same }

pub token_resident : (core : Frames) (f : ℕ) (q : Page) → HasToken core f q → IsTrue (is_resident (slot_at core.slots f))
token_resident core f q t = ap is_resident t.slot

-- the mark that the core map has is the page's
pub token_mark : (p : Placement) (core : Frames) (q : Page) (f : ℕ) → ShowsCore p core → HasToken core f q → token_dirty (slot_at core.slots f) ≡ is_dirty p q
token_mark p core q f shows t = ap token_dirty t.slot ∙ (shows.kept f t.token q t.mark t.slot).1

pub token_seat : (p : Placement) (core : Frames) (q : Page) (f : ℕ) → OwnsFrames p → ShowsCore p core → HasToken core f q → IsSeated p q f
token_seat p core q f o shows t = go (state_of p q) refl
  where
    held : page_of p f ≡ Some q
    held = (shows.kept f t.token q t.mark t.slot).0

    named : frame_of (state_of p q) ≡ Some f
    named = o.named f q held

    unlisted : times f p.free ≡ 0
    unlisted = ap (times f) shows.free ∙ shows.listed f ∙ ap listings t.slot

    still : times f (flying (parts_of p.transfers)) ≡ 0
    still = no_moves (times f (flying (parts_of p.transfers))) (sym (ap is_away t.slot) ∙ shows.away f (frame_in p q f held))

    alone : seats (times f p.free) (state_of p q) ≡ 1
    alone = let a = once_at p q f o named in let b = unlisted in let c = still in omega arith

    go : (s : PageState) → state_of p q ≡ s → IsSeated p q f
    go Unfilled e = none_some f (sym (ap frame_of e) ∙ named)
    go OnSwap e = none_some f (sym (ap frame_of e) ∙ named)
    go (Valid g) e = let same : g ≡ f = same_Some g f (sym (ap frame_of e) ∙ named) in record { state = inl (e ∙ ap Valid same) }
    go (Invalid g) e = let same : g ≡ f = same_Some g f (sym (ap frame_of e) ∙ named) in record { state = inr (e ∙ ap Invalid same, unlisted) }
    go (Coming g) e = let x : seats (times f p.free) (state_of p q) ≡ 0 = ap (seats (times f p.free)) e in let a = alone in absurd (omega arith)
    go (Going g) e = let x : seats (times f p.free) (state_of p q) ≡ 0 = ap (seats (times f p.free)) e in let a = alone in absurd (omega arith)
