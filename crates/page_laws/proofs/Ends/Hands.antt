-- Serving leaves the hands as far apart as they were, and as many frames.
use Rattle.std.proofs.Common.{◌≡◌, ℕ, ◌+◌, ◌/◌, ◌<◌, List, [], ◌∷◌, length, refl, sym, ap, ◌∙◌, subst, arith}
use Rattle.vm_facts.specs.declared.page.Page.{Page}
use Rattle.page_model.specs.Placement.{Placement, Errand}
use Rattle.page_model.specs.Moves.{fill, get_run, reclaim, done}
use Rattle.page_model.specs.Runs.{pages_of_run, run_in}
use Rattle.page_model.specs.Hands.{expire, sweep}
use Rattle.page_model.specs.Reading.{read_step, read_errand}
use Rattle.page_model.specs.Serve.{force, serve_step, after_serving}
use Rattle.page_model.specs.Rank.{walk, HandsStand, HasRoom}
use Rattle.page_model.specs.Ownership.{OwnsFrames}
use Rattle.page_model.specs.Place.{filled}
use Rattle.page_laws.proofs.Moves.Puts.{SameRest, rest_by_puts, fill_kept, get_run_kept, reclaim_kept, done_kept}
use Rattle.page_laws.proofs.Moves.Stays.{Steady, swept_steady}
use Rattle.page_laws.proofs.Ends.Forcing.{move_stands}
use Rattle.page_laws.proofs.Moves.Cases.{force_cases, serving_cases}

-- the hands at the same frames, of as many
pub record SameHands (p q : Placement) : Type 0 where
  pub front : q.front ≡ p.front
  pub back : q.back ≡ p.back
  pub frames : length q.holds ≡ length p.holds

pub hands_self : (p : Placement) → SameHands p p
hands_self p = record { front = refl; back = refl; frames = refl }

pub hands_both : (p q r : Placement) → SameHands p q → SameHands q r → SameHands p r
hands_both p q r s t = record { front = t.front ∙ s.front; back = t.back ∙ s.back; frames = t.frames ∙ s.frames }

pub hands_stand : (p q : Placement) → SameHands p q → HandsStand p → HandsStand q
hands_stand p q s h = record {
  low = subst (λ (f : ℕ). 0 < f) (sym s.back) h.low;
  high = let a = h.high in let b = s.back in let c = s.frames in omega arith;
  ahead = s.front ∙ h.ahead ∙ ap (λ (n : ℕ). walk n (n / 4) p.back) (sym s.frames) ∙ ap (walk (length q.holds) (length q.holds / 4)) (sym s.back);
}

-- moves but those of the hands leave them
hands_of : (p q : Placement) → SameRest p q → SameHands p q
hands_of p q s = record { front = s.front; back = s.back; frames = s.count }

pub filled_hands : (p : Placement) (v : Page) → SameHands p (filled p v)
filled_hands p v = let s : SameRest p (fill p v) = fill_kept rest_by_puts p v in record { front = s.front; back = s.back; frames = s.count }

pub get_run_hands : (p : Placement) (e : Errand) (qs : List Page) → SameHands p (get_run p e qs)
get_run_hands p e qs = hands_of p (get_run p e qs) (get_run_kept rest_by_puts p e qs)

read_hands : (p : Placement) (q : Page) → SameHands p (read_step p q)
read_hands p q = get_run_hands p (read_errand p q) (pages_of_run q (run_in p q))

pub reclaim_hands : (p : Placement) (v : Page) → SameHands p (reclaim p v)
reclaim_hands p v = hands_of p (reclaim p v) (reclaim_kept rest_by_puts p v)

pub done_hands : (p : Placement) → SameHands p (done p)
done_hands p = hands_of p (done p) (done_kept rest_by_puts p)

pub force_stands : (p : Placement) (locked : List Page) → OwnsFrames p → HandsStand p → HandsStand (force p locked)
force_stands p locked o h = force_cases HandsStand p locked (λ e. move_stands p locked h) (λ t ts e. hands_stand p (done p) (done_hands p) h)

pub force_frames : (p : Placement) (locked : List Page) → OwnsFrames p → length (force p locked).holds ≡ length p.holds
force_frames p locked o = force_cases (λ r. length r.holds ≡ length p.holds) p locked
    (λ e. let s : Steady p (sweep (expire p locked) locked) = swept_steady p locked in ap length s.holds) (λ t ts e. let s = done_hands p in s.frames)

pub serve_stands : (p : Placement) (locked : List Page) (q : Page) → OwnsFrames p → HandsStand p → HandsStand (serve_step p locked q)
serve_stands p locked q o h = serving_cases (λ x. HandsStand (after_serving p locked x)) p q (λ f s. h)
    (λ f s. hands_stand p (reclaim p q) (reclaim_hands p q) h) (λ f s. hands_stand p (done p) (done_hands p) h) (λ n e. force_stands p locked o h)
    (λ f fs e s x. hands_stand p (filled p q) (filled_hands p q) h) (λ f fs e r b. hands_stand p (done p) (done_hands p) h)
    (λ f fs e r b. hands_stand p (read_step p q) (read_hands p q) h)

pub serve_frames : (p : Placement) (locked : List Page) (q : Page) → OwnsFrames p → length (serve_step p locked q).holds ≡ length p.holds
serve_frames p locked q o = serving_cases (λ x. length (after_serving p locked x).holds ≡ length p.holds) p q (λ f s. refl)
    (λ f s. let k = reclaim_hands p q in k.frames) (λ f s. let k = done_hands p in k.frames) (λ n e. force_frames p locked o)
    (λ f fs e s x. let k = filled_hands p q in k.frames) (λ f fs e r b. let k = done_hands p in k.frames) (λ f fs e r b. let k = read_hands p q in k.frames)

-- as many frames, as much room for what is locked
pub room_still : (p q : Placement) (locked : List Page) → length q.holds ≡ length p.holds → HasRoom p locked → HasRoom q locked
room_still p q locked e r = record { quarter = subst (λ (n : ℕ). 0 < n / 4) (sym e) r.quarter; rest = subst (λ (n : ℕ). length locked + n / 4 < n) (sym e) r.rest }
