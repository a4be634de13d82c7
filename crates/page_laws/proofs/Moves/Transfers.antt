-- How many transfers are in flight.
use Rattle.std.proofs.Common.{◌≡◌, ℕ, zero, suc, ◌+◌, ◌<◌, ◌≤◌, Bool, true, false, List, [], ◌∷◌, length, refl, sym, ap, ◌∙◌, arith}
use Rattle.std.proofs.lemmas.List.{length-append}
use Rattle.std.proofs.lemmas.Bool.{leb-false}
use Rattle.vm_facts.specs.declared.page.Page.{Page}
use Rattle.vm_facts.specs.declared.page.PageState.{PageState}
use Rattle.vm_facts.specs.declared.page.PageState.TheVariants.{Unfilled, Valid, Invalid, Coming, Going, OnSwap}
use Rattle.vm_facts.specs.declared.entry.Entry.{Entry}
use Rattle.vm_facts.specs.declared.entry.Entry.TheVariants as entries
use Rattle.page_model.specs.PageNames.{pages_from, number_of}
use Rattle.page_model.specs.Placement.{Placement, Transfer, Part, Errand, Writes, state_of, is_dirty}
use Rattle.page_model.specs.Moves.{fill, fill_at, get_run, launch_run, land_all, land, done, done_of, reclaim, reclaim_to, retire, retire_to, taken_parts, sent_parts}
use Rattle.page_model.specs.Runs.{pages_of_run, run_in, run_out}
use Rattle.page_model.specs.Hands.{expire, sweep, hand_move, hand_moves}
use Rattle.page_model.specs.Place.{put_step, put_by, place_entry}
use Rattle.page_model.specs.Reading.{read_errand}
use Rattle.page_model.specs.Serve.{force, serve_step, after_serving}
use Rattle.vm_facts.specs.Swap.{most_in_flight}
use Rattle.page_model.specs.Conditions.{begins}
use Rattle.page_laws.proofs.Moves.InSteps.{land_with}
use Rattle.page_laws.proofs.Moves.Stays.{expire_transfers}
use Rattle.page_laws.proofs.Moves.Taken.{sweep_cases}
use Rattle.page_laws.proofs.Moves.Cases.{force_cases, serving_cases}

get_run_count : (p : Placement) (e : Errand) (qs : List Page) → length (get_run p e qs).transfers ≡ length p.transfers + 1
get_run_count p e qs = length-append p.transfers (record { errand = e; parts = taken_parts qs p.free } ∷ [])

pub launch_run_count : (p : Placement) (qs : List Page) → length (launch_run p qs).transfers ≡ length p.transfers + 1
launch_run_count p qs = length-append p.transfers (record { errand = Writes; parts = sent_parts p qs } ∷ [])

pub retire_count : (p : Placement) (v : Page) → length (retire p v).transfers ≡ length p.transfers
retire_count p v = go (state_of p v)
  where
    go : (s : PageState) → length (retire_to p v s).transfers ≡ length p.transfers
    go (Valid f) = refl
    go (Invalid f) = refl
    go Unfilled = refl
    go (Coming f) = refl
    go (Going f) = refl
    go OnSwap = refl

pub reclaim_count : (p : Placement) (v : Page) → length (reclaim p v).transfers ≡ length p.transfers
reclaim_count p v = go (state_of p v)
  where
    go : (s : PageState) → length (reclaim_to p v s).transfers ≡ length p.transfers
    go (Valid f) = refl
    go (Invalid f) = refl
    go Unfilled = refl
    go (Coming f) = refl
    go (Going f) = refl
    go OnSwap = refl

pub fill_count : (p : Placement) (v : Page) → length (fill p v).transfers ≡ length p.transfers
fill_count p v = go p.free
  where
    go : (fr : List ℕ) → length (fill_at p v fr).transfers ≡ length p.transfers
    go [] = refl
    go (f ∷ rest) = refl

-- what lands leaves the younger transfers in flight
pub land_all_rest : (xs : List Part) (p : Placement) (e : Errand) (ts : List Transfer) → (land_all (record p { transfers = ts }) e xs).transfers ≡ ts
land_all_rest [] p e ts = refl
land_all_rest (x ∷ xs) p e ts = sym (ap (λ (q : Placement). (land_all q e xs).transfers) (land_with p ts e x)) ∙ land_all_rest xs (land p e x) e ts

pub done_count : (p : Placement) → length (done p).transfers ≤ length p.transfers
done_count p = go p.transfers refl
  where
    go : (ts : List Transfer) → p.transfers ≡ ts → length (done_of p ts).transfers ≤ length p.transfers
    go [] e = omega arith
    go (t ∷ ts) e = let k = ap length (land_all_rest t.parts p t.errand ts) in let l = ap length e in omega arith

pub sweep_count : (p : Placement) (locked : List Page) → length (sweep p locked).transfers ≤ length p.transfers + 1
sweep_count p locked = sweep_cases (λ r. length r.transfers ≤ length p.transfers + 1) p locked (omega arith)
    (λ q t e. let k = launch_run_count p (pages_of_run q (run_out p locked q)) in omega arith) (λ q t e. let k = retire_count p q in omega arith)

move_count : (p : Placement) (locked : List Page) → length (hand_move p locked).transfers ≤ length p.transfers + 1
move_count p locked = let k = sweep_count (expire p locked) locked in let e = ap length (expire_transfers p locked) in omega arith

moves_count : (n : ℕ) (p : Placement) (locked : List Page) → length (hand_moves p locked n).transfers ≤ length p.transfers + n
moves_count zero p locked = omega arith
moves_count (suc n) p locked = let k = move_count p locked in let m = moves_count n (hand_move p locked) locked in omega arith

put_count : (p : Placement) (v : Page) (qs : List Page) → length (put_step p v qs).transfers ≤ length p.transfers + 1
put_count p v qs = go (is_dirty p v)
  where
    go : (d : Bool) → length (put_by p v qs d).transfers ≤ length p.transfers + 1
    go true = let k = launch_run_count p qs in omega arith
    go false = let k = retire_count p v in omega arith

-- A read and a put begin one transfer at most, and each move of the hands one.
pub entry_count : (locked : List Page) (at : ℕ) (p : Placement) (e : Entry) → length (place_entry locked at p e).transfers ≤ length p.transfers + begins e
entry_count locked at p (entries.Zero q) = let k = fill_count p q in omega arith
entry_count locked at p (entries.Get q lo n) = let k = get_run_count p (read_errand p q) (pages_from q lo n) in omega arith
entry_count locked at p (entries.Copy q) = let k = fill_count p q in omega arith
entry_count locked at p (entries.Reclaim q) = let k = reclaim_count p q in omega arith
entry_count locked at p (entries.Hands n) = moves_count n p locked
entry_count locked at p (entries.Put q n) = put_count p q (pages_from q (number_of q) n)
entry_count locked at p entries.Done = let k = done_count p in omega arith
entry_count locked at p _ = omega arith

finish_few : (p : Placement) → length p.transfers ≤ most_in_flight → length (done p).transfers ≤ most_in_flight
finish_few p l = let k = done_count p in omega arith

-- Forcing begins a transfer only where none is in flight.
pub force_few : (p : Placement) (locked : List Page) → length p.transfers ≤ most_in_flight → length (force p locked).transfers ≤ most_in_flight
force_few p locked l = force_cases (λ r. length r.transfers ≤ most_in_flight) p locked
    (λ e. let k = move_count p locked in let z = ap length e in omega arith) (λ t ts e. finish_few p l)

-- Serving begins one only where fewer than 16 are.
pub serve_few : (p : Placement) (locked : List Page) (q : Page) → length p.transfers ≤ most_in_flight
    → length (serve_step p locked q).transfers ≤ most_in_flight
serve_few p locked q l = serving_cases (λ x. length (after_serving p locked x).transfers ≤ most_in_flight) p q (λ f s. l)
    (λ f s. let k = reclaim_count p q in omega arith) (λ f s. finish_few p l) (λ n e. force_few p locked l)
    (λ f fs e s x. let k = fill_count p q in omega arith) (λ f fs e r b. finish_few p l)
    (λ f fs e r b. let k = get_run_count p (read_errand p q) (pages_of_run q (run_in p q)) in let m = leb-false 16 (length p.transfers) b in omega arith)
