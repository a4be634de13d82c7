-- A part of a move of the hands: what the calls of the tables ask for it, and leave.
use Rattle.std.proofs.Common.{◌≡◌, inl, ℕ, Bool, false, List, map, sym, ap, ◌∙◌, subst}
use Rattle.vm_facts.specs.declared.page.Page.{Page}
use Rattle.vm_facts.specs.declared.page.PageState.TheVariants.{Invalid}
use Rattle.vax_pte.specs.declared.Place.{Place}
use Rattle.vax_pte.specs.declared.Place.TheVariants as places
use Rattle.space_map.specs.Space.{Places}
use Rattle.flat_state.specs.PageNames.{number_of, pages_from}
use Rattle.page_model.specs.Placement.{Placement, mark_of}
use Rattle.page_model.specs.Moves.{launch_run}
use Rattle.page_model.specs.Hands.{expire_to}
use Rattle.page_laws.proofs.Ownership.Runs.{clean_unmarked}
use Rattle.kernel_model.specs.HandParts.{ExpireComes, WriteComes, FreeComes, expire_page}
use Rattle.kernel_laws.proofs.PartLeaves.{idle_seat, write_seats}
use Rattle.kernel_tables.specs.declared.tables.Tables.{Tables}
use Rattle.kernel_tables.specs.Shown.{placed}
use Rattle.kernel_tables.specs.View.{Lists, placement_of, frames_of}
use Rattle.kernel_tables.specs.Tied.{Tied}
use Rattle.kernel_tables.specs.Known.{Known}
use Rattle.kernel_tables.specs.Machine.{lists_of}
use Rattle.kernel_tables.specs.Launches.{MayPutOut, MovedOn, put_out}
use Rattle.kernel_tables.proofs.Entries.{head_of}
use Rattle.kernel_tables.proofs.Stills.{images_heads}
use Rattle.table_steps.proofs.Residing.{Resides, seat_resides}
use Rattle.table_steps.proofs.Turning.{turn_is, turn_frames, turn_heads, turn_tied}
use Rattle.table_steps.proofs.Puttings.{put_some}
use Rattle.table_steps.proofs.Hands.{expiring, may_some}

-- A page that is made invalid.

pub valid_resides : (t : Lists) (q : Page) → Known t → (c : ExpireComes (placement_of t) q) → Resides t q c.frame
valid_resides t q k c = seat_resides t q c.frame k (record { state = inl c.valid })

rest_wide : (t u : Tables) → u ≡ record t { spaces = u.spaces }
    → u ≡ record t { core = u.core; spaces = u.spaces; ring = u.ring; front = u.front; back = u.back }
rest_wide t u e =
    e
    ∙ ap (λ c. record t { core = c; spaces = u.spaces }) (sym (ap (λ (x : Tables). x.core) e))
    ∙ ap (λ r. record t { core = u.core; spaces = u.spaces; ring = r }) (sym (ap (λ (x : Tables). x.ring) e))
    ∙ ap (λ (n : ℕ). record t { core = u.core; spaces = u.spaces; ring = u.ring; front = n }) (sym (ap (λ (x : Tables). x.front) e))
    ∙ ap (λ (n : ℕ). record t { core = u.core; spaces = u.spaces; ring = u.ring; front = u.front; back = n }) (sym (ap (λ (x : Tables). x.back) e))

pub expired_moves : (t u : Tables) (q : Page) (k : Known (lists_of t)) (c : ExpireComes (placement_of (lists_of t)) q)
    → u.spaces ≡ map (placed q (places.Frame c.frame false (valid_resides (lists_of t) q k c).changed)) t.spaces → u ≡ record t { spaces = u.spaces }
    → MovedOn t u (expire_page (placement_of (lists_of t)) q)
expired_moves t u q k c spaces rest =
    let l : Lists = lists_of t in
    let r : Resides l q c.frame = valid_resides l q k c in
    let place : Place = places.Frame c.frame false r.changed in
    let n : Lists = record l { spaces = map (placed q place) l.spaces } in
    let m : Bool = mark_of (placement_of l) q in
    let d = expiring l q c.frame k r in
    let is : lists_of u ≡ n = ap lists_of rest ∙ ap (λ (ss : List Places). record l { spaces = ss }) spaces in
    record {
      place = ap placement_of is ∙ turn_is l n q c.frame place (Invalid c.frame) m d ∙ sym (ap (expire_to (placement_of l) q) c.valid);
      frames = ap frames_of is ∙ turn_frames l n q c.frame place (Invalid c.frame) m d;
      tied = subst Tied (sym is) (turn_tied l n q c.frame place (Invalid c.frame) m d);
      images = images_heads t u (ap (λ (x : Lists). map head_of x.spaces) is ∙ turn_heads l n q c.frame place (Invalid c.frame) m d);
      ring = inl (ap (λ (x : Tables). x.ring) rest);
      rest = rest_wide t u rest;
    }

-- Pages that are written, or a frame that is freed.

pub write_may : (p : Placement) (q : Page) (lo n : ℕ) → lo ≡ number_of q → WriteComes p q n → MayPutOut p q lo n
write_may p q lo n e c = subst (λ (v : ℕ). MayPutOut p q v n) (sym e)
    (may_some p q (number_of q) n c.some (record { seats = write_seats p q n c; dirty = c.dirty; most = c.most; room = c.room }))

pub write_is : (p : Placement) (q : Page) (lo n : ℕ) → lo ≡ number_of q → WriteComes p q n
    → put_out p q lo n ≡ launch_run p (pages_from q (number_of q) n)
write_is p q lo n e c = ap (λ (v : ℕ). put_out p q v n) e ∙ put_some p q (number_of q) n c.some

pub free_may : (p : Placement) (q : Page) → FreeComes p q → MayPutOut p q 0 0
free_may p q c = record { seat = idle_seat p q c.idle; clean = clean_unmarked q (mark_of p q) c.clean }
