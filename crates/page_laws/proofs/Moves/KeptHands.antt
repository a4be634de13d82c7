-- The hands, and how many frames there are, through each entry.
use Rattle.std.proofs.Common.{◌≡◌, ℕ, zero, suc, List, length, refl, ap, ◌∙◌}
use Rattle.vm_facts.specs.declared.page.Page.{Page}
use Rattle.vm_facts.specs.declared.entry.Entry.{Entry}
use Rattle.vm_facts.specs.declared.entry.Entry.TheVariants as entries
use Rattle.page_model.specs.PageNames.{pages_from, number_of}
use Rattle.page_model.specs.Placement.{Placement}
use Rattle.page_model.specs.Moves.{get_run, done}
use Rattle.page_model.specs.Hands.{hand_move, hand_moves}
use Rattle.page_model.specs.Place.{filled, put_step, place_entry}
use Rattle.page_model.specs.Reading.{read_errand}
use Rattle.page_model.specs.Rank.{HandsStand}
use Rattle.page_model.specs.Ownership.{OwnsFrames}
use Rattle.page_laws.proofs.Moves.Stays.{Steady, Stays, move_stays}
use Rattle.page_laws.proofs.Ends.Forcing.{move_stands}
use Rattle.page_laws.proofs.Ends.Hands.{SameHands, hands_self, hands_stand, filled_hands, get_run_hands, reclaim_hands, done_hands}
use Rattle.page_laws.proofs.Bytes.Others.{put_steady}

pub record KeepsHands (p q : Placement) : Type 0 where
  pub stand : HandsStand p → HandsStand q
  pub frames : length q.holds ≡ length p.holds

pub keeps_same : (p q : Placement) → SameHands p q → KeepsHands p q
keeps_same p q s = record { stand = hands_stand p q s; frames = s.frames }

moves_keep : (n : ℕ) (p : Placement) (locked : List Page) → KeepsHands p (hand_moves p locked n)
moves_keep zero p locked = record { stand = λ h. h; frames = refl }
moves_keep (suc n) p locked =
    let k = moves_keep n (hand_move p locked) locked in
    let s : Stays p (hand_move p locked) = move_stays p locked in
    record { stand = λ h. k.stand (move_stands p locked h); frames = k.frames ∙ ap length s.holds }

pub steady_keep : (p q : Placement) → Steady p q → KeepsHands p q
steady_keep p q s = keeps_same p q (record { front = s.front; back = s.back; frames = ap length s.holds })

fill_keep : (p : Placement) (v : Page) → KeepsHands p (filled p v)
fill_keep p v = keeps_same p (filled p v) (filled_hands p v)

get_keep : (p : Placement) (v : Page) (qs : List Page) → KeepsHands p (get_run p (read_errand p v) qs)
get_keep p v qs = keeps_same p (get_run p (read_errand p v) qs) (get_run_hands p (read_errand p v) qs)

keep_self : (p : Placement) → KeepsHands p p
keep_self p = keeps_same p p (hands_self p)

pub entry_keep : (locked : List Page) (at : ℕ) (p : Placement) (e : Entry) → OwnsFrames p → KeepsHands p (place_entry locked at p e)
entry_keep locked at p (entries.Zero q) o = fill_keep p q
entry_keep locked at p (entries.Get q lo n) o = get_keep p q (pages_from q lo n)
entry_keep locked at p (entries.Copy q) o = fill_keep p q
entry_keep locked at p (entries.Reclaim q) o = keeps_same p (place_entry locked at p (entries.Reclaim q)) (reclaim_hands p q)
entry_keep locked at p (entries.Hands n) o = moves_keep n p locked
entry_keep locked at p (entries.Put q n) o = steady_keep p (put_step p q (pages_from q (number_of q) n)) (put_steady p q (pages_from q (number_of q) n))
entry_keep locked at p entries.Done o = keeps_same p (done p) (done_hands p)
entry_keep locked at p (entries.SwapOut pid) o = keeps_same p (place_entry locked at p (entries.SwapOut pid)) (record { front = refl; back = refl; frames = refl })
entry_keep locked at p (entries.SwapIn pid) o = keeps_same p (place_entry locked at p (entries.SwapIn pid)) (record { front = refl; back = refl; frames = refl })
entry_keep locked at p _ o = keep_self p
