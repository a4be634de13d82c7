-- Each transfer has a page.
use Rattle.std.proofs.Common.{◌≡◌, inl, inr, ℕ, zero, suc, ◌+◌, ◌<◌, Bool, true, false, List, [], ◌∷◌, ◌++◌, length, sym, subst, arith}
use Rattle.std.proofs.lemmas.List.{length-append}
use Rattle.vm_facts.specs.declared.page.Page.{Page}
use Rattle.vm_facts.specs.declared.page.Page.TheVariants.{Data, Stack, Text}
use Rattle.vm_facts.specs.declared.page.PageState.{PageState}
use Rattle.vm_facts.specs.declared.page.PageState.TheVariants.{Unfilled, Valid, Invalid, Coming, Going, OnSwap}
use Rattle.vm_facts.specs.declared.entry.Entry.{Entry}
use Rattle.vm_facts.specs.declared.entry.Entry.TheVariants as entries
use Rattle.page_model.specs.PageNames.{beside, pages_from, number_of}
use Rattle.page_model.specs.Placement.{Placement, Transfer, Errand, Writes, state_of, is_dirty}
use Rattle.page_model.specs.Moves.{fill, fill_at, get_run, launch_run, done, done_of, reclaim, reclaim_to, retire, retire_to, taken_parts, send, sent_part, sent_parts}
use Rattle.page_model.specs.Runs.{run_in, run_in_by, run_out, spare_frames}
use Rattle.page_model.specs.Hands.{expire, sweep, hand_move, hand_moves}
use Rattle.page_model.specs.Place.{put_step, put_by, place_entry}
use Rattle.page_model.specs.Reading.{read_errand}
use Rattle.page_model.specs.Serve.{force, serve_step, after_serving}
use Rattle.page_model.specs.Conditions.{EachPage, IsSeated, HasSeat, CanPlace, HaveParts, CanBegin}
use Rattle.page_model.specs.Ownership.{OwnsFrames}
use Rattle.page_laws.proofs.Ownership.Pages.{expire_owner}
use Rattle.page_laws.proofs.Ownership.Hands.{run_out_seats, move_owner}
use Rattle.page_laws.proofs.Moves.Stays.{expire_transfers}
use Rattle.page_laws.proofs.Moves.Transfers.{land_all_rest}
use Rattle.page_laws.proofs.Moves.Taken.{taken_seat, sweep_cases}
use Rattle.page_laws.proofs.Moves.Cases.{force_cases, serving_cases, some_of}

-- one more transfer that has a page
pushed : (ts : List Transfer) (t : Transfer) → 0 < length t.parts → HaveParts ts → HaveParts (ts ++ t ∷ [])
pushed [] t l h = (l, tt)
pushed (u ∷ us) t l h = (h.0, pushed us t l h.1)

get_run_parts : (p : Placement) (e : Errand) (q : Page) (lo n : ℕ) → 0 < n → 0 < length p.free → HaveParts p.transfers
    → HaveParts (get_run p e (pages_from q lo n)).transfers
get_run_parts p e q lo zero m l h = absurd (omega arith)
get_run_parts p e q lo (suc n) m l h = pushed p.transfers (record { errand = e; parts = taken_parts (pages_from q lo (suc n)) p.free }) (go p.free l) h
  where
    go : (fr : List ℕ) → 0 < length fr → 0 < length (taken_parts (pages_from q lo (suc n)) fr)
    go [] k = k
    go (f ∷ rest) k = omega arith

-- a page that holds its frame is written from it
sent_some : (p : Placement) (v : Page) → HasSeat p v → 0 < length (sent_part v (state_of p v))
sent_some p v c = let k : IsSeated p v c.frame = c.seat in elim k.state [
  | inl e ↦ subst (λ (s : PageState). 0 < length (sent_part v s)) (sym e) (omega arith)
  | inr e ↦ subst (λ (s : PageState). 0 < length (sent_part v s)) (sym e.0) (omega arith)
]

launch_run_parts : (p : Placement) (q : Page) (lo n : ℕ) → 0 < n → EachPage (HasSeat p) (pages_from q lo n) → HaveParts p.transfers
    → HaveParts (launch_run p (pages_from q lo n)).transfers
launch_run_parts p q lo zero m c h = absurd (omega arith)
launch_run_parts p q lo (suc n) m c h = pushed p.transfers (record { errand = Writes; parts = sent_parts p (pages_from q lo (suc n)) })
    (let l = length-append (sent_part (beside q lo) (state_of p (beside q lo))) (sent_parts (send p (beside q lo)) (pages_from q (lo + 1) n)) in
    let k = sent_some p (beside q lo) c.0 in omega arith) h

retire_parts : (p : Placement) (v : Page) → HaveParts p.transfers → HaveParts (retire p v).transfers
retire_parts p v h = go (state_of p v)
  where
    go : (s : PageState) → HaveParts (retire_to p v s).transfers
    go (Valid f) = h
    go (Invalid f) = h
    go Unfilled = h
    go (Coming f) = h
    go (Going f) = h
    go OnSwap = h

reclaim_parts : (p : Placement) (v : Page) → HaveParts p.transfers → HaveParts (reclaim p v).transfers
reclaim_parts p v h = go (state_of p v)
  where
    go : (s : PageState) → HaveParts (reclaim_to p v s).transfers
    go (Valid f) = h
    go (Invalid f) = h
    go Unfilled = h
    go (Coming f) = h
    go (Going f) = h
    go OnSwap = h

fill_parts : (p : Placement) (v : Page) → HaveParts p.transfers → HaveParts (fill p v).transfers
fill_parts p v h = go p.free
  where
    go : (fr : List ℕ) → HaveParts (fill_at p v fr).transfers
    go [] = h
    go (f ∷ rest) = h

done_parts : (p : Placement) → HaveParts p.transfers → HaveParts (done p).transfers
done_parts p h = go p.transfers h
  where
    go : (ts : List Transfer) → HaveParts ts → HaveParts (done_of p ts).transfers
    go [] k = h
    go (t ∷ ts) k = subst HaveParts (sym (land_all_rest t.parts p t.errand ts)) k.1

sweep_parts : (p : Placement) (locked : List Page) → OwnsFrames p → HaveParts p.transfers → HaveParts (sweep p locked).transfers
sweep_parts p locked o a = sweep_cases (λ r. HaveParts r.transfers) p locked a
    (λ q t e. launch_run_parts p q (run_out p locked q).lo (run_out p locked q).n (omega arith) (run_out_seats p locked q (taken_seat p locked q o t)) a)
    (λ q t e. retire_parts p q a)

move_parts : (p : Placement) (locked : List Page) → OwnsFrames p → HaveParts p.transfers → HaveParts (hand_move p locked).transfers
move_parts p locked o h = sweep_parts (expire p locked) locked (expire_owner p locked o) (subst HaveParts (sym (expire_transfers p locked)) h)

moves_parts : (n : ℕ) (p : Placement) (locked : List Page) → OwnsFrames p → HaveParts p.transfers → HaveParts (hand_moves p locked n).transfers
moves_parts zero p locked o h = h
moves_parts (suc n) p locked o h = moves_parts n (hand_move p locked) locked (move_owner p locked o) (move_parts p locked o h)

put_parts : (p : Placement) (q : Page) (n : ℕ) → 0 < n → EachPage (HasSeat p) (pages_from q (number_of q) n) → HaveParts p.transfers
    → HaveParts (put_step p q (pages_from q (number_of q) n)).transfers
put_parts p q n l c h = go (is_dirty p q)
  where
    go : (d : Bool) → HaveParts (put_by p q (pages_from q (number_of q) n) d).transfers
    go true = launch_run_parts p q (number_of q) n l c h
    go false = retire_parts p q h

pub entry_parts : (locked : List Page) (at : ℕ) (p : Placement) (e : Entry) → OwnsFrames p → CanPlace p e → CanBegin p e → HaveParts p.transfers
    → HaveParts (place_entry locked at p e).transfers
entry_parts locked at p (entries.Zero q) o c b h = fill_parts p q h
entry_parts locked at p (entries.Get q lo n) o c b h = get_run_parts p (read_errand p q) q lo n b.0 b.1 h
entry_parts locked at p (entries.Copy q) o c b h = fill_parts p q h
entry_parts locked at p (entries.Reclaim q) o c b h = reclaim_parts p q h
entry_parts locked at p (entries.Hands n) o c b h = moves_parts n p locked o h
entry_parts locked at p (entries.Put q n) o c b h = put_parts p q n b c.1 h
entry_parts locked at p entries.Done o c b h = done_parts p h
entry_parts locked at p _ o c b h = h

force_parts : (p : Placement) (locked : List Page) → OwnsFrames p → HaveParts p.transfers → HaveParts (force p locked).transfers
force_parts p locked o h = force_cases (λ r. HaveParts r.transfers) p locked (λ e. move_parts p locked o h) (λ t ts e. done_parts p h)

pub run_some : (p : Placement) (q : Page) (s : PageState) (spare : ℕ) → 0 < (run_in_by p q s spare).n
run_some p (Text image v) OnSwap spare = omega arith
run_some p (Text image v) _ spare = omega arith
run_some p (Data sid v) OnSwap spare = omega arith
run_some p (Data sid v) _ spare = omega arith
run_some p (Stack sid v) OnSwap spare = omega arith
run_some p (Stack sid v) _ spare = omega arith

pub serve_parts : (p : Placement) (locked : List Page) (q : Page) → OwnsFrames p → HaveParts p.transfers → HaveParts (serve_step p locked q).transfers
serve_parts p locked q o h = serving_cases (λ x. HaveParts (after_serving p locked x).transfers) p q (λ f s. h) (λ f s. reclaim_parts p q h)
    (λ f s. done_parts p h) (λ n e. force_parts p locked o h) (λ f fs e s x. fill_parts p q h) (λ f fs e r b. done_parts p h)
    (λ f fs e r b. get_run_parts p (read_errand p q) q (run_in p q).lo (run_in p q).n (run_some p q (state_of p q) (spare_frames p)) (some_of p f fs e) h)
