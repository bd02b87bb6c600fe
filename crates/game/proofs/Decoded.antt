-- The last two answers of the command reader.
use Prim.Native.Nat.{ℕ, ◌+◌, ◌-◌, ◌<◌}
use mathlib.Core.Path.{◌≡◌, refl, sym, ap, ◌∙◌}
use mathlib.Core.List.{List}
use native.Mathlib.Omega.{arith}
use lib.ListN.{length, get_or, take, drop}
use lib.Dec.{ltb}
use Rattle.std.proofs.lemmas.List.{get_or-take, get_or-drop}
use borrow.Author.Tests.{le-ltb, ne_eqb}
use Rattle.game.specs.Command.{Found, whole, operands_at, decoded}
use Rattle.std.specs.Prelude.{Result, Ok, Err, Bool, true, false, cond}
use Rattle.game.specs.declared.command.Unread.{Unread}
use Rattle.game.specs.declared.command.Unread.TheVariants.{Cut, Unknown}
use Rattle.game.specs.declared.command.Command.{Command}

-- a command of one byte is whole
pub one_byte : (file : List ℕ) (at : ℕ) (command : Command) → at < length file → Ok (command, at + 1) ≡ whole file at 1 command
unfolding whole
one_byte file at command h = rw (le-ltb (length file - at) 1 (omega arith))

-- any other byte is unknown
pub unknown-byte : (code : ℕ) (file : List ℕ) (at : ℕ) → (code ≡ 1 → ⊥) → (code ≡ 2 → ⊥) → (code ≡ 3 → ⊥) → (code ≡ 4 → ⊥) → (code ≡ 5 → ⊥) → (code ≡ 255 → ⊥) → Err Unknown ≡ decoded code file at
unfolding decoded
unknown-byte code file at n1 n2 n3 n4 n5 n6 =
    rw (ne_eqb code 1 n1, ne_eqb code 2 n2, ne_eqb code 3 n3, ne_eqb code 4 n4, ne_eqb code 5 n5, ne_eqb code 255 n6)

-- where the operands are cut, so is the command
pub cut-whole : (b : Bool) (xs : List ℕ) (command : Command) (next : ℕ) (unread : Unread) → ◌≡◌ {A = Result (List ℕ) Unread} (cond b (Err Cut) (Ok xs)) (Err unread)
    → ◌≡◌ {A = Found} (Err unread) (cond b (Err Cut) (Ok (command, next)))
cut-whole true xs command next unread e = let same : Cut ≡ unread = cc in rw same
cut-whole false xs command next unread e = absurd (let z : ◌≡◌ {A = ℕ} 0 1 = cc in omega arith)

-- where they are there, the command is whole, and they stand one after the other behind its byte
module _ (n : ℕ) (file : List ℕ) (at : ℕ) (xs : List ℕ) (e : operands_at n file at ≡ Ok xs) where
  taken : (b : Bool) → b ≡ ltb (length file - at) (n + 1) → (b ≡ false) × (take n (drop (at + 1) file) ≡ xs)
  taken true t = absurd (let f : ◌≡◌ {A = Result (List ℕ) Unread} (Err Cut) (Ok xs) = rw (← t) at e in let z : ◌≡◌ {A = ℕ} 0 1 = cc in omega arith)
  taken false t = let f : ◌≡◌ {A = Result (List ℕ) Unread} (Ok (take n (drop (at + 1) file))) (Ok xs) = rw (← t) at e in (refl, cc)

  pub whole-by : (command : Command) → ◌≡◌ {A = Found} (Ok (command, at + (n + 1))) (whole file at (n + 1) command)
  unfolding whole
  whole-by command = rw (taken (ltb (length file - at) (n + 1)) refl).0

  pub operand : (i : ℕ) → i < n → get_or xs i 0 ≡ get_or file (at + (i + 1)) 0
  operand i h =
      ap (λ (ys : List ℕ). get_or ys i 0) (sym (taken (ltb (length file - at) (n + 1)) refl).1)
      ∙ get_or-take n (drop (at + 1) file) i 0 h
      ∙ get_or-drop (at + 1) file i 0
      ∙ ap (λ (k : ℕ). get_or file k 0) (omega arith)
