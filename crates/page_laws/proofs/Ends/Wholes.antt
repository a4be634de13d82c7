-- Forcing a frame and serving a page as wholes: the numbers that fall bound how many units there are.
use Rattle.std.proofs.Common.{◌≡◌, ℕ, zero, suc, ◌+◌, ◌<◌, Bool, true, false, List, [], ◌∷◌, length, refl, sym, ◌∙◌, subst, arith}
use Rattle.vm_facts.specs.declared.page.Page.{Page}
use Rattle.page_model.specs.Pages.{is_valid}
use Rattle.page_model.specs.PageNames.{number_of}
use Rattle.page_model.specs.Placement.{Placement, slots_of, state_of, IsThere}
use Rattle.page_model.specs.Runs.{pages_of_run, run_in}
use Rattle.page_model.specs.Reading.{read_errand}
use Rattle.page_model.specs.Serve.{force, force_entry, serve_step, serve_entry, after_serving}
use Rattle.page_model.specs.Rank.{far, rank, HandsStand, HasRoom, EndsForcing, EndsServing}
use Rattle.page_model.specs.Ownership.{OwnsFrames}
use Rattle.page_laws.proofs.Moves.Stays.{Stays, force_stays}
use Rattle.page_laws.proofs.Blocks.Steps.{SameShape, shape_by_puts}
use Rattle.page_laws.proofs.Moves.Puts.{done_kept, get_run_kept, filled_kept, reclaim_kept}
use Rattle.page_laws.proofs.Ownership.Serve.{force_owner, serve_owner}
use Rattle.page_laws.proofs.Moves.Locks.{force_spares, serve_spares, spares_both}
use Rattle.page_laws.proofs.Ends.Serving.{force_falls, serve_falls}
use Rattle.page_laws.proofs.Ends.Hands.{force_stands, force_frames, serve_stands, serve_frames, room_still}
use Rattle.page_laws.proofs.Moves.Units.{now_unit}
use Rattle.page_laws.proofs.Moves.Cases.{serving_cases}

-- Forcing.

pub force_room : (p : Placement) (locked : List Page) → OwnsFrames p → HasRoom p locked → HasRoom (force p locked) locked
force_room p locked o r = room_still p (force p locked) locked (force_frames p locked o) r

forced_within : (n : ℕ) (p : Placement) (locked : List Page) → OwnsFrames p → HandsStand p → HasRoom p locked → far p locked < n → EndsForcing p locked
forced_within zero p locked o h r l = absurd (omega arith)
forced_within (suc n) p locked o h r l = go p.free refl
    (λ e. forced_within n (force p locked) locked (force_owner p locked o) (force_stands p locked o h) (force_room p locked o r) (let k = force_falls p locked o h r e in omega arith))
  where
    go : (fr : List ℕ) → p.free ≡ fr → (p.free ≡ [] → EndsForcing (force p locked) locked) → EndsForcing p locked
    go [] e more =
        let k : EndsForcing (force p locked) locked = more e in
        record {
          units = force_entry p.transfers ∷ k.units;
          last = k.last;
          leads = (e, refl, k.leads);
          free = k.free;
          few = let a = k.few in let b = force_falls p locked o h r e in omega arith;
          owner = k.owner;
          hands = k.hands;
          frames = k.frames ∙ force_frames p locked o;
          spares = spares_both p (force p locked) k.last locked (force_spares p locked o) k.spares;
        }
    go (f ∷ rest) e more = record {
      units = [];
      last = p;
      leads = refl;
      free = subst (λ (fr : List ℕ). 0 < length fr) (sym e) (omega arith);
      few = omega arith;
      owner = o;
      hands = h;
      frames = refl;
      spares = λ w i v. v;
    }

-- After no more units than its number says a frame is free.
pub forced : (p : Placement) (locked : List Page) → OwnsFrames p → HandsStand p → HasRoom p locked → EndsForcing p locked
forced p locked o h r = forced_within (1 + far p locked) p locked o h r (omega arith)

-- Serving.

module _ (p : Placement) (locked : List Page) (q : Page) where
  pub serve_shape : OwnsFrames p → SameShape p (serve_step p locked q)
  serve_shape o = serving_cases (λ x. SameShape p (after_serving p locked x)) p q (λ f s. record { sizes = λ w. refl; sharing = λ i. refl })
      (λ f s. reclaim_kept shape_by_puts p q) (λ f s. done_kept shape_by_puts p)
      (λ n e. let k : Stays p (force p locked) = force_stays p locked o in record { sizes = k.sizes; sharing = k.sharing })
      (λ f fs e s x. filled_kept shape_by_puts (λ r ds. record { sizes = λ w. refl; sharing = λ i. refl }) p q) (λ f fs e r b. done_kept shape_by_puts p)
      (λ f fs e r b. get_run_kept shape_by_puts p (read_errand p q) (pages_of_run q (run_in p q)))

  -- each segment is as long as before
  pub serve_sizes : OwnsFrames p → (w : Page) → length (slots_of (serve_step p locked q) w) ≡ length (slots_of p w)
  serve_sizes o = let s = serve_shape o in s.sizes

  pub serve_room : OwnsFrames p → HasRoom p locked → HasRoom (serve_step p locked q) locked
  serve_room o r = room_still p (serve_step p locked q) locked (serve_frames p locked q o) r

  serve_there : OwnsFrames p → IsThere p q → IsThere (serve_step p locked q) q
  serve_there o there = subst (λ (n : ℕ). number_of q < n) (sym (serve_sizes o q)) there

served_within : (n : ℕ) (p : Placement) (locked : List Page) (q : Page) → OwnsFrames p → HandsStand p → HasRoom p locked → IsThere p q
    → rank p locked q < n → EndsServing p locked q
served_within zero p locked q o h r there l = absurd (omega arith)
served_within (suc n) p locked q o h r there l = go (is_valid (state_of p q)) refl
    (λ e. served_within n (serve_step p locked q) locked q (serve_owner p locked q o there) (serve_stands p locked q o h) (serve_room p locked q o r) (serve_there p locked q o there)
    (let k = serve_falls p locked q o h r there e in omega arith))
  where
    go : (b : Bool) → is_valid (state_of p q) ≡ b → (is_valid (state_of p q) ≡ false → EndsServing (serve_step p locked q) locked q) → EndsServing p locked q
    go false e more =
        let k : EndsServing (serve_step p locked q) locked q = more e in
        record {
          units = serve_entry p q ∷ k.units;
          last = k.last;
          leads = (now_unit p q e, k.leads);
          valid = k.valid;
          few = let a = k.few in let b = serve_falls p locked q o h r there e in omega arith;
          owner = k.owner;
          hands = k.hands;
          frames = k.frames ∙ serve_frames p locked q o;
          sizes = λ w. k.sizes w ∙ serve_sizes p locked q o w;
          spares = spares_both p (serve_step p locked q) k.last locked (serve_spares p locked q o there) k.spares;
        }
    go true e more = record {
      units = [];
      last = p;
      leads = refl;
      valid = e;
      few = omega arith;
      owner = o;
      hands = h;
      frames = refl;
      sizes = λ w. refl;
      spares = λ w i v. v;
    }

-- After no more units than its number says the page is valid.
pub served : (p : Placement) (locked : List Page) (q : Page) → OwnsFrames p → HandsStand p → HasRoom p locked → IsThere p q → EndsServing p locked q
served p locked q o h r there = served_within (1 + rank p locked q) p locked q o h r there (omega arith)
