-- The line of each frame.
use Rattle.std.proofs.Common.{◌≡◌, ℕ, zero, suc, ◌+◌, ◌<◌, ◌≤◌, Bool, true, false, eqb, cond, List, [], ◌∷◌, ◌++◌, length, Option, Some, None, refl, sym, ap, ◌∙◌, inl, inr, arith}
use Rattle.std.specs.Prelude.{slice_get, codes}
use Rattle.std.specs.List.{flat_map}
use Rattle.std.proofs.lemmas.Bool.{cases_eq, cases_lt, ne_eqb}
use Rattle.std.proofs.lemmas.Option.{same_Some}
use Rattle.vm_facts.specs.declared.page.Page.{Page}
use Rattle.vm_facts.specs.declared.page.PageState.{PageState}
use Rattle.vm_facts.specs.declared.page.PageState.TheVariants.{Unfilled, Valid, Invalid, Coming, Going, OnSwap}
use Rattle.vm_facts.specs.Lists.{times}
use Rattle.vm_facts.proofs.Lists.{times_other}
use Rattle.vm_facts.proofs.Tests.{eq_self}
use Rattle.core_map.specs.Order.{place_from}
use Rattle.run_text.specs.Text.{parts}
use Rattle.page_model.specs.Frames.{count_up}
use Rattle.page_model.specs.Pages.{frame_of}
use Rattle.page_model.specs.Placement.{Errand, Writes, Reads, Placement, IsFrame, state_of, page_of, parts_of, flying, moving_state}
use Rattle.page_model.specs.Ownership.{OwnsFrames, seats, seated, seated_of}
use Rattle.page_laws.proofs.Moves.Steps.{frame_of_moving}
use Rattle.owner_lines.specs.Owners.{carrier, is_unsaved, moved_text, used_by, used_text, free_place, owner_text, frame_line}
use Rattle.owner_lines.specs.Carried.{is_write, carrying_word}
use Rattle.owner_lines.specs.Lines.{Said, Free, Used, InTransfer, FrameLine, said_text, frame_text, frames_told, counted, free_one, used_one, moving_one}
use Rattle.owner_lines.specs.Told.{IsSo, AreSo}
use Rattle.owner_lines.proofs.Carrying.{IsCarried, carried}
use Rattle.owner_lines.proofs.PlacesInARow.{occurrences, stands}

-- a frame isn't on a list, or it stands in a place of it
data Listing (n f : ℕ) (xs : List ℕ) : Type 0 where
  Off : place_from n f xs ≡ 0 → times f xs ≡ 0 → Listing n f xs
  On : (i : ℕ) → place_from n f xs ≡ n + i → slice_get xs i ≡ Some f → Listing n f xs

listing : (n f : ℕ) (xs : List ℕ) → Listing n f xs
listing n f [] = Off refl refl
listing n f (x ∷ xs) = elim (cases_eq x f) [
  | inl e ↦ On 0 (ap (λ (b : Bool). cond b n (place_from (n + 1) f xs)) (ap (λ (y : ℕ). eqb y f) e ∙ eq_self f) ∙ (let z : n ≡ n + 0 = omega arith in z)) (ap (λ (y : ℕ). Some y) e)
  | inr ne ↦ further ne (listing (n + 1) f xs)
]
  where
    further : (x ≡ f → ⊥) → Listing (n + 1) f xs → Listing n f (x ∷ xs)
    further ne (Off none nobody) = Off (ap (λ (b : Bool). cond b n (place_from (n + 1) f xs)) (ne_eqb x f ne) ∙ none) (times_other f x xs ne ∙ nobody)
    further ne (On i place at) = On (suc i) (ap (λ (b : Bool). cond b n (place_from (n + 1) f xs)) (ne_eqb x f ne) ∙ place ∙ (let z : n + 1 + i ≡ n + suc i = omega arith in z)) at

-- what is said of a frame, and that it is so
record Found (p : Placement) (f : ℕ) : Type 0 where
  said : Said
  text : owner_text p f (free_place p f) ≡ said_text said
  so : IsSo p f said
  free : times f p.free ≡ free_one said
  moving : times f (flying (parts_of p.transfers)) ≡ moving_one said

module _ (p : Placement) (owns : OwnsFrames p) (f : ℕ) (w : IsFrame p f) where
  listed : (i : ℕ) → free_place p f ≡ 1 + i → slice_get p.free i ≡ Some f → Found p f
  listed i place at =
      let once = owns.once f w in
      let some = stands p.free i f at in
      let next : 1 + i ≡ suc i = omega arith in
      record {
        said = Free (suc i) (page_of p f);
        text = ap (owner_text p f) (place ∙ next);
        so = record { place = at; still = refl };
        free = omega (arith, once, some);
        moving = omega (arith, once, some);
      }

  used : (q : Page) → free_place p f ≡ 0 → times f p.free ≡ 0 → times f (flying (parts_of p.transfers)) ≡ 0 → page_of p f ≡ Some q
      → (s : PageState) → state_of p q ≡ s → seats (times f p.free) s ≡ 1 → Found p f
  used q place off still page Unfilled s seat = absurd (omega (arith, seat))
  used q place off still page (Valid g) s seat =
      let same : g ≡ f = same_Some g f (sym (ap frame_of s) ∙ owns.named f q page) in
      record {
        said = Used true q (is_unsaved p q);
        text = ap (owner_text p f) place ∙ ap (used_text p) page ∙ ap (used_by p q) s;
        so = record { off = off; state = s ∙ ap (λ (h : ℕ). Valid h) same; unsaved = refl };
        free = off;
        moving = still;
      }
  used q place off still page (Invalid g) s seat =
      let same : g ≡ f = same_Some g f (sym (ap frame_of s) ∙ owns.named f q page) in
      record {
        said = Used false q (is_unsaved p q);
        text = ap (owner_text p f) place ∙ ap (used_text p) page ∙ ap (used_by p q) s;
        so = record { off = off; state = s ∙ ap (λ (h : ℕ). Invalid h) same; unsaved = refl };
        free = off;
        moving = still;
      }
  used q place off still page (Coming g) s seat = absurd (omega (arith, seat))
  used q place off still page (Going g) s seat = absurd (omega (arith, seat))
  used q place off still page OnSwap s seat = absurd (omega (arith, seat))

  kept : (o : Option Page) → page_of p f ≡ o → free_place p f ≡ 0 → times f p.free ≡ 0 → times f (flying (parts_of p.transfers)) ≡ 0 → seated_of p f o ≡ 1 → Found p f
  kept None page place off still seat = absurd (omega (arith, seat))
  kept (Some q) page place off still seat = used q place off still page (state_of p q) refl seat

  moved_by : (e : Errand) (q : Page) (n : ℕ) → carrier p f ≡ n → used_by p q (moving_state e f) ≡ moved_text (carrying_word (is_write e)) n q
  moved_by Writes q n number = ap (λ (k : ℕ). moved_text (codes " write") k q) number
  moved_by (Reads source demanded) q n number = ap (λ (k : ℕ). moved_text (codes " read") k q) number

  moved : free_place p f ≡ 0 → times f p.free ≡ 0 → 0 < times f (flying (parts_of p.transfers)) → Found p f
  moved place off some =
      let once = owns.once f w in
      let c : IsCarried p 1 f p.transfers = carried p 1 f p.transfers owns.moves some in
      let page : page_of p f ≡ Some c.page = owns.names c.page f (ap frame_of c.state ∙ frame_of_moving c.transfer.errand f) in
      let next : 1 + c.behind ≡ suc c.behind = omega arith in
      record {
        said = InTransfer (is_write c.transfer.errand) (suc c.behind) c.page;
        text = ap (owner_text p f) place ∙ ap (used_text p) page ∙ ap (used_by p c.page) c.state ∙ moved_by c.transfer.errand c.page (suc c.behind) (c.number ∙ next);
        so = record { off = off; transfer = c.transfer; number = c.found; part = c.part; errand = refl; state = c.state };
        free = off;
        moving = omega (arith, once, some);
      }

  found : Found p f
  found = go (listing 1 f p.free)
    where
      go : Listing 1 f p.free → Found p f
      go (On i place at) = listed i place at
      go (Off place off) = elim (cases_lt 0 (times f (flying (parts_of p.transfers)))) [
        | inl some ↦ moved place off some
        | inr few ↦
            let still : times f (flying (parts_of p.transfers)) ≡ 0 = omega (arith, few) in
            let once = owns.once f w in
            let seat : seated p f ≡ 1 = omega (arith, once, off, still) in
            kept (page_of p f) refl place off still seat
      ]

-- the lines of these frames
pub record Lines (p : Placement) (fs : List ℕ) : Type 0 where
  pub lines : List FrameLine
  pub text : flat_map (frame_line p) fs ≡ flat_map frame_text lines
  pub frames : frames_told lines ≡ fs
  pub so : AreSo p lines
  pub free : counted free_one lines ≡ occurrences fs p.free
  pub moving : counted moving_one lines ≡ occurrences fs (flying (parts_of p.transfers))
  pub whole : counted free_one lines + counted used_one lines + counted moving_one lines ≡ length fs

one_kind : (s : Said) → free_one s + used_one s + moving_one s ≡ 1
one_kind (Free n page) = refl
one_kind (Used valid q dirty) = refl
one_kind (InTransfer write n q) = refl

pub lines_of : (p : Placement) → OwnsFrames p → (a n : ℕ) → 0 < a → a + n ≤ suc (length p.holds) → Lines p (count_up a n)
lines_of p owns a zero pos within = record { lines = []; text = refl; frames = refl; so = tt; free = refl; moving = refl; whole = refl }
lines_of p owns a (suc n) pos within =
    let here : Found p a = found p owns a (pos, omega (arith, within)) in
    let rest : Lines p (count_up (a + 1) n) = lines_of p owns (a + 1) n (omega arith) (omega (arith, within)) in
    let x : FrameLine = record { frame = a; said = here.said } in
    let kind = one_kind here.said in
    let sum = rest.whole in
    let free_here = here.free in
    let free_rest = rest.free in
    let moving_here = here.moving in
    let moving_rest = rest.moving in
    record {
      lines = x ∷ rest.lines;
      text =
          ap (λ (t : List ℕ). (codes "frame" ++ parts (a ∷ []) ++ t ++ codes "\n") ++ flat_map (frame_line p) (count_up (a + 1) n)) here.text
          ∙ ap (λ (t : List ℕ). frame_text x ++ t) rest.text;
      frames = ap (λ (gs : List ℕ). a ∷ gs) rest.frames;
      so = (here.so, rest.so);
      free = omega (arith, free_here, free_rest);
      moving = omega (arith, moving_here, moving_rest);
      whole = omega (arith, kind, sum);
    }
