-- What has to be so of a file before it is taken for a swap file, by what the system said of it.
use Rattle.std.specs.Prelude.{◌≡◌, ◌≤◌, ◌⊎◌, ℕ, false, Option, IsTrue}
use Rattle.std.specs.Option.{ForSome}
use Rattle.system_calls.specs.declared.facts.FileFacts.{FileFacts}

-- a plain file, and no link
abbrev pub IsPlain : FileFacts → Type 0
IsPlain facts = (facts.is_link ≡ false) × IsTrue facts.is_plain

-- what has a name, and what was opened under it, are one plain file, which belongs to the user, where that one is told, and has no
-- other name
pub record IsOwn (named opened : FileFacts) (user : Option ℕ) : Type 0 where
  pub plain : IsPlain named
  pub device : named.device ≡ opened.device
  pub number : named.number ≡ opened.number
  pub only : opened.names ≤ 1
  pub owner : ForSome user (λ someone. someone ≡ opened.owner)

-- that was said of it: of the name, of the file that is open, of the user
abbrev pub IsChecked : (FileFacts → Type 0) → (FileFacts → Type 0) → (Option ℕ → Type 0) → Type 0
IsChecked named_said opened_said is_user =
    (named : FileFacts) × (opened : FileFacts) × (user : Option ℕ) × named_said named × opened_said opened × is_user user × IsOwn named opened user

-- it was made, or it is checked and its owner's alone
abbrev pub IsTaken : (FileFacts → Type 0) → (Option ℕ → Type 0) → Type 0 → (FileFacts → Type 0) → Type 0 → Type 0
IsTaken named_said is_user is_new opened_said is_private = is_new ⊎ (IsChecked named_said opened_said is_user × is_private)
