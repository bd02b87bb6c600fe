-- What stands at an offset of a file: how many bytes a command has, and when it is found whole, cut or unknown.
use Rattle.std.specs.Prelude.{ℕ, ◌+◌, ◌-◌, ◌<◌, refl, ◌↔◌, Bool, true, false, cond, List, length, get_or, eqb}
use Rattle.std.proofs.Math.Path.{◌≡◌}
use Rattle.std.proofs.Common.{sym, ap, ◌∙◌, arith}
use Rattle.std.proofs.Math.Logic.{⊎_elim}
use Rattle.std.proofs.Math.Dec.{ltb}
use borrow.Author.Tests.{ltb-true, ltb-false, lt-ltb}
use Rattle.game.specs.Command.{Found, whole, set_of, decoded, command_at}
use Rattle.std.specs.Prelude.{Ok, Err}
use Rattle.game.specs.declared.command.Unread.TheVariants.{Cut, Unknown}
use Rattle.game.specs.ListLaws.{test}
use Rattle.game.specs.declared.command.Command.{Command}
use Rattle.game.specs.declared.command.Command.TheVariants.{Sizes, Abelard, Final, Rule, Target, End}

-- How many bytes a command has, by its command byte, 0 where that is unknown: "01 P S L", "02 p", "03 q", "04 p a p' k b c",
-- "05 q a, set of four bytes", "FF".
unfoldable pub command_size : ℕ → ℕ
command_size code =
    cond (eqb code 1) 4
    (cond (eqb code 2) 2 (cond (eqb code 3) 2 (cond (eqb code 4) 7 (cond (eqb code 5) 7 (cond (eqb code 255) 1 0)))))

-- the bytes of a command
unfoldable pub bytes_in : Command → ℕ
bytes_in (Sizes p s l) = 4
bytes_in (Abelard p) = 2
bytes_in (Final q) = 2
bytes_in (Rule r) = 7
bytes_in (Target t) = 7
bytes_in End = 1

some_bytes : (command : Command) → 0 < bytes_in command
unfolding bytes_in
some_bytes (Sizes p s l) = omega arith
some_bytes (Abelard p) = omega arith
some_bytes (Final q) = omega arith
some_bytes (Rule r) = omega arith
some_bytes (Target t) = omega arith
some_bytes End = omega arith

chosen : (X : ℕ → Found → Type 0) (b : Bool) (n m : ℕ) (x y : Found) → X n x → X m y → X (cond b n m) (cond b x y)
chosen X true n m x y f g = f
chosen X false n m x y f g = g

-- What holds of every command that may stand at an offset, whole or cut, and of an unknown byte there, holds of what is found there.
by_code : (X : ℕ → Found → Type 0) (file : List ℕ) (at : ℕ) → ((command : Command) → X (bytes_in command) (whole file at (bytes_in command) command))
    → X 0 (Err Unknown) → (code : ℕ) → X (command_size code) (decoded code file at)
unfolding command_size bytes_in decoded
by_code X file at known unknown code =
    let o : ℕ → ℕ = λ i. get_or file (at + i) 0 in
    chosen X (eqb code 1) _ _ _ _ (known (Sizes (o 1) (o 2) (o 3)))
    (chosen X (eqb code 2) _ _ _ _ (known (Abelard (o 1)))
    (chosen X (eqb code 3) _ _ _ _ (known (Final (o 1)))
    (chosen X (eqb code 4) _ _ _ _ (known (Rule (record { from = o 1; top = o 2; to = o 3; count = o 4; above = o 5; below = o 6 })))
    (chosen X (eqb code 5) _ _ _ _ (known (Target (record { state = o 1; letter = o 2; set = set_of (o 3) (o 4) (o 5) (o 6) })))
    (chosen X (eqb code 255) _ _ _ _ (known End) unknown)))))

-- What is found of a command of `size` bytes, 0 for an unknown one, where so many are left: the offset after it, or unknown, or missing.
record Fits (at left size : ℕ) (found : Found) : Type 0 where
  to : (command : Command) (next : ℕ) → found ≡ Ok (command, next) → next ≡ at + bytes_in command
  unknown : (found ≡ (Err Unknown)) ↔ (size ≡ 0)
  missing : (found ≡ (Err Cut)) ↔ (left < size)

unknown-fits : (at left : ℕ) → Fits at left 0 (Err Unknown)
unknown-fits at left =
    record {
      to = λ command next e. absurd (let z : ◌≡◌ {A = ℕ} 0 1 = cc in omega arith);
      unknown = (λ e. refl, λ e. refl);
      missing = (λ e. absurd (let z : ◌≡◌ {A = ℕ} 0 1 = cc in omega arith), λ l. absurd (omega (arith, l)));
    }

found-same : (c d : Command) (n m : ℕ) → ◌≡◌ {A = Found} (Ok (c, n)) (Ok (d, m)) → (c ≡ d) × (n ≡ m)
found-same c d n m e =
    let p : ◌≡◌ {A = Command × ℕ} (c, n) (d, m) = cc in
    (ap (λ (x : Command × ℕ). x.0) p, ap (λ (x : Command × ℕ). x.1) p)

whole-fits : (file : List ℕ) (at : ℕ) (c : Command) → Fits at (length file - at) (bytes_in c) (whole file at (bytes_in c) c)
unfolding whole
whole-fits file at c =
    let left = length file - at in
    let some = some_bytes c in
    ⊎_elim
    (λ (p : ltb left (bytes_in c) ≡ true).
    rw p
    (record {
      to = λ command next e. absurd (let z : ◌≡◌ {A = ℕ} 0 1 = cc in omega arith);
      unknown = (λ e. absurd (let z : ◌≡◌ {A = ℕ} 0 1 = cc in omega arith), λ e. absurd (omega (arith, some, e)));
      missing = (λ e. ltb-true left (bytes_in c) p, λ l. refl);
    }))
    (λ (p : ltb left (bytes_in c) ≡ false).
    rw p
    (record {
      to = λ command next e. let same = found-same c command _ next e in sym same.1 ∙ rw same.0;
      unknown = (λ e. absurd (let z : ◌≡◌ {A = ℕ} 0 1 = cc in omega arith), λ e. absurd (omega (arith, some, e)));
      missing = (λ e. absurd (let z : ◌≡◌ {A = ℕ} 0 1 = cc in omega arith), λ l. absurd (omega (arith, l, ltb-false left (bytes_in c) p)));
    }))
    (test (ltb left (bytes_in c)))

fits : (file : List ℕ) (at : ℕ) → at < length file → Fits at (length file - at) (command_size (get_or file at 0)) (command_at file at)
unfolding command_at
fits file at inside =
    rw (lt-ltb at (length file) inside)
    (by_code (Fits at (length file - at)) file at (whole-fits file at) (unknown-fits at (length file - at)) (get_or file at 0))

module _ (file : List ℕ) (at : ℕ) where
  -- a command is found only within the file
  pub found_inside : (command : Command) (next : ℕ) → command_at file at ≡ Ok (command, next) → at < length file
  unfolding command_at
  found_inside command next e =
      ⊎_elim
      (λ (p : ltb at (length file) ≡ true). ltb-true at (length file) p)
      (λ (p : ltb at (length file) ≡ false). absurd (let m : (Err Cut) ≡ Ok (command, next) = rw p at e in let z : ◌≡◌ {A = ℕ} 0 1 = cc in omega arith))
      (test (ltb at (length file)))

  -- its bytes stand between its offset and the one after it
  pub found-to : (command : Command) (next : ℕ) → command_at file at ≡ Ok (command, next) → next ≡ at + bytes_in command
  found-to command next e = (fits file at (found_inside command next e)).to command next e

  -- and that one is further on
  pub found-further : (command : Command) (next : ℕ) → command_at file at ≡ Ok (command, next) → at < next
  found-further command next e = omega (arith, found-to command next e, some_bytes command)

  module _ (inside : at < length file) where
    pub found-unknown : (command_at file at ≡ (Err Unknown)) ↔ (command_size (get_or file at 0) ≡ 0)
    found-unknown = (fits file at inside).unknown

    pub found-missing : (command_at file at ≡ (Err Cut)) ↔ (length file < at + command_size (get_or file at 0))
    found-missing =
        let m = (fits file at inside).missing in
        (λ e. omega (arith, m.0 e, inside), λ l. m.1 (omega (arith, l, inside)))
