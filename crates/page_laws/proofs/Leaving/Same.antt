-- A change of a process, and its going out and coming in, leave each page that stands the same.
use Rattle.std.proofs.Common.{◌≡◌, inl, inr, ℕ, ◌*◌, ◌≤◌, Bool, List, [], length, Option, Some, None, refl, sym, ap, ◌∙◌, arith}
use Rattle.vm_facts.specs.declared.page.Page.{Page}
use Rattle.vm_facts.specs.declared.page.Page.TheVariants.{Data, Stack, Text}
use Rattle.page_model.specs.Owner.TheVariants as owners
use Rattle.page_model.specs.Holdings.{Holdings, block_in}
use Rattle.page_model.specs.Book.{IsBook, IsPlace, ArePlacesApart}
use Rattle.page_model.proofs.PlaceLaws.{places_apart_of}
use Rattle.page_model.specs.PageNames.{number_of}
use Rattle.page_model.specs.Change.{Change}
use Rattle.page_model.specs.Frames.{at_frame}
use Rattle.page_model.specs.Placement.{Placement}
use Rattle.page_model.specs.Place.{Changing, moved, place_change}
use Rattle.page_model.specs.Conditions.{IsNew}
use Rattle.page_model.specs.Ownership.{owner_of}
use Rattle.page_model.specs.PageBytes.{Bytes, bytes_in, SamePage, SameBytes}
use Rattle.page_model.specs.Stored.{stored, store_at}
use Rattle.page_laws.proofs.Lists.Local.{none_some}
use Rattle.std.proofs.lemmas.Option.{same_Some}
use Rattle.page_laws.proofs.Blocks.Places.{stored_other}
use Rattle.page_laws.proofs.Leaving.Changes.{change_frame}

pub change_same : (who : Changing) (p : Placement) (change : Change) (b c : Bytes) (w : Page)
    → IsNew p who.next_sid → SameBytes b c w
    → SamePage p (place_change who p change) b c w
change_same who p change b c w n s = record {
  frames = λ f g e k. elim (change_frame who p change w n) [
    | inl h ↦ ap (λ (xs : List (List ℕ)). at_frame xs g []) s.frames ∙ ap (bytes_in b) (same_Some g f (sym k ∙ h ∙ e))
    | inr h ↦ none_some g (sym h.0 ∙ k)
  ];
  swap = s.swap;
  start = s.start;
}

pub residence_same : (p : Placement) (pid : ℕ) (out : Bool) (at : ℕ) (b : Bytes) (w : Page) → SamePage p (moved p pid out at) b b w
residence_same p pid out at b w = record { frames = λ f g e k. ap (bytes_in b) (same_Some g f (sym k ∙ e)); swap = refl; start = refl }

-- what is written of a process that goes out isn't a page's
pub out_same : (size : ℕ) (hs : Holdings) (image bytes : List ℕ) (pid : ℕ) (w : Page) → IsBook size hs → 512 * size ≤ length image
    → length bytes ≡ 1024 → stored hs (store_at image (block_in hs (owners.U pid) 0) bytes) w ≡ stored hs image w
out_same size hs image bytes pid w book l lb = go (block_in hs (owners.U pid) 0) refl
  where
    apart : ArePlacesApart size hs
    apart = places_apart_of size hs book

    other : (q : Page) → owners.U pid ≡ owner_of q → ⊥
    other (Data sid v) e = absurd cc
    other (Stack sid v) e = absurd cc
    other (Text image v) e = absurd cc

    go : (o : Option ℕ) → block_in hs (owners.U pid) 0 ≡ o → stored hs (store_at image o bytes) w ≡ stored hs image w
    go None e = refl
    go (Some x) e =
        let p : IsPlace size hs (owners.U pid) x = apart.own (owners.U pid) 0 x e in
        let within = p.within in
        stored_other image bytes x (block_in hs (owner_of w) (number_of w)) (omega arith) lb (λ y h. elim (apart.apart (owners.U pid) (owner_of w) 0 (number_of w) x y e h) [
          | inl k ↦ absurd (other w k.0)
          | inr k ↦ k
        ])
