-- What a part of a move does, and asks, is the same wherever the hands stand.
use Rattle.std.proofs.Common.{◌≡◌, ℕ, List, [], ◌∷◌, ◌++◌, refl, sym, ap, ◌∙◌, subst}
use Rattle.vm_facts.specs.declared.page.Page.{Page}
use Rattle.vm_facts.specs.declared.page.PageState.{PageState}
use Rattle.vm_facts.specs.declared.page.PageState.TheVariants.{Unfilled, Valid, Invalid, Coming, Going, OnSwap}
use Rattle.flat_state.specs.PageNames.{number_of, pages_from}
use Rattle.page_model.specs.Placement.{Placement, Part, Writes, state_of}
use Rattle.page_model.specs.Moves.{send, send_to, send_all, sent_part, sent_parts, launch_run, retire, retire_to}
use Rattle.page_model.specs.Hands.{expire_to}
use Rattle.page_laws.proofs.Lists.Runs.{each_page_imp}
use Rattle.kernel_model.specs.declared.part.HandPart.{HandPart}
use Rattle.kernel_model.specs.declared.part.HandPart.TheVariants as parts
use Rattle.kernel_model.specs.HandParts.{IsIdle, PartComes, PartsCome, expire_page, part_place, parts_place}

module _ (f b : ℕ) where
  -- the placement with its hands at these frames
  abbrev pub at_hands : Placement → Placement
  at_hands p = record p { front = f; back = b }

  expire_hands : (p : Placement) (q : Page) → expire_page (at_hands p) q ≡ at_hands (expire_page p q)
  expire_hands p q = go (state_of p q)
    where
      go : (s : PageState) → expire_to (at_hands p) q s ≡ at_hands (expire_to p q s)
      go (Valid g) = refl
      go Unfilled = refl
      go (Invalid g) = refl
      go (Coming g) = refl
      go (Going g) = refl
      go OnSwap = refl

  retire_hands : (p : Placement) (q : Page) → retire (at_hands p) q ≡ at_hands (retire p q)
  retire_hands p q = go (state_of p q)
    where
      go : (s : PageState) → retire_to (at_hands p) q s ≡ at_hands (retire_to p q s)
      go (Valid g) = refl
      go (Invalid g) = refl
      go Unfilled = refl
      go (Coming g) = refl
      go (Going g) = refl
      go OnSwap = refl

  send_hands : (p : Placement) (q : Page) → send (at_hands p) q ≡ at_hands (send p q)
  send_hands p q = go (state_of p q)
    where
      go : (s : PageState) → send_to (at_hands p) q s ≡ at_hands (send_to p q s)
      go (Valid g) = refl
      go (Invalid g) = refl
      go Unfilled = refl
      go (Coming g) = refl
      go (Going g) = refl
      go OnSwap = refl

  all_hands : (p : Placement) (qs : List Page) → send_all (at_hands p) qs ≡ at_hands (send_all p qs)
  all_hands p [] = refl
  all_hands p (q ∷ qs) = ap (λ (r : Placement). send_all r qs) (send_hands p q) ∙ all_hands (send p q) qs

  sent_hands : (p : Placement) (qs : List Page) → sent_parts (at_hands p) qs ≡ sent_parts p qs
  sent_hands p [] = refl
  sent_hands p (q ∷ qs) =
      ap (λ (r : Placement). sent_part q (state_of p q) ++ sent_parts r qs) (send_hands p q)
      ∙ ap (λ (xs : List Part). sent_part q (state_of p q) ++ xs) (sent_hands (send p q) qs)

  launch_hands : (p : Placement) (qs : List Page) → launch_run (at_hands p) qs ≡ at_hands (launch_run p qs)
  launch_hands p qs =
      ap (λ (r : Placement). record r { transfers = p.transfers ++ record { errand = Writes; parts = sent_parts (at_hands p) qs } ∷ [] }) (all_hands p qs)
      ∙ ap (λ (xs : List Part). record (at_hands (send_all p qs)) { transfers = p.transfers ++ record { errand = Writes; parts = xs } ∷ [] }) (sent_hands p qs)

  -- the part leaves the same but for the hands
  pub part_hands : (p : Placement) (x : HandPart) → part_place (at_hands p) x ≡ at_hands (part_place p x)
  part_hands p (parts.Expires q) = expire_hands p q
  part_hands p (parts.Writes q n) = launch_hands p (pages_from q (number_of q) n)
  part_hands p (parts.Frees q) = retire_hands p q

  pub parts_hands : (p : Placement) (xs : List HandPart) → parts_place (at_hands p) xs ≡ at_hands (parts_place p xs)
  parts_hands p [] = refl
  parts_hands p (x ∷ xs) = ap (λ (r : Placement). parts_place r xs) (part_hands p x) ∙ parts_hands (part_place p x) xs

  idle_hands : (p : Placement) (q : Page) → IsIdle p q → IsIdle (at_hands p) q
  idle_hands p q i = record { frame = i.frame; invalid = i.invalid; off = i.off }

  -- it may come there too
  pub comes_hands : (p : Placement) (x : HandPart) → PartComes p x → PartComes (at_hands p) x
  comes_hands p (parts.Expires q) c = record { frame = c.frame; valid = c.valid }
  comes_hands p (parts.Writes q n) c = record {
    some = c.some;
    most = c.most;
    idle = each_page_imp (IsIdle p) (IsIdle (at_hands p)) (pages_from q (number_of q) n) c.idle (idle_hands p);
    dirty = c.dirty;
    near = c.near;
    room = c.room;
  }
  comes_hands p (parts.Frees q) c = record { idle = idle_hands p q c.idle; clean = c.clean }

  pub come_hands : (p : Placement) (xs : List HandPart) → PartsCome p xs → PartsCome (at_hands p) xs
  come_hands p [] c = tt
  come_hands p (x ∷ xs) c = (
    comes_hands p x c.0,
    subst (λ (r : Placement). PartsCome r xs) (sym (part_hands p x)) (come_hands (part_place p x) xs c.1),
  )
