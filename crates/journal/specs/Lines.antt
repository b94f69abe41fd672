-- What a line of a journal says.
use Rattle.std.specs.Prelude.{ℕ, ◌+◌, ◌-◌, ◌*◌, Bool, true, false, cond, ◌&&◌, List, [], ◌∷◌, length, take, drop, is_some, Some, None, codes, fold, Option, ◌==◌, nat_le}
use Rattle.std.specs.Option.{unwrap_or, option_map}
use Rattle.std.specs.List.{list_all}
use Rattle.sheet.specs.declared.edit.Edit.{Edit}
use Rattle.sheet.specs.declared.edit.Edit.TheVariants.{Enter, Strike}

-- the value of a hexadecimal digit of either case
abbrev pub digit : ℕ → Option ℕ
digit c =
    cond (nat_le 48 c && nat_le c 57) (Some (c - 48))
    (cond (nat_le 97 c && nat_le c 102) (Some (c - 87))
    (cond (nat_le 65 c && nat_le c 70) (Some (c - 55)) None))

-- the number that digits spell, the highest first
unfoldable pub spelled : List ℕ → ℕ
spelled cs = fold (λ n c. 16 * n + unwrap_or (digit c) 0) 0 cs

-- exactly eight hexadecimal digits say a word
unfoldable pub word_in : List ℕ → Option ℕ
word_in cs = cond (length cs == 8 && list_all (λ c. is_some (digit c)) cs) (Some (spelled cs)) None

-- the same bytes
abbrev pub same_bytes : List ℕ → List ℕ → Bool
same_bytes [] [] = true
same_bytes [] (y ∷ ys) = false
same_bytes (x ∷ xs) [] = false
same_bytes (x ∷ xs) (y ∷ ys) = x == y && same_bytes xs ys

-- a line is `enter WORD` or `strike WORD`, or it says nothing
unfoldable pub said : List ℕ → Option Edit
said line =
    cond (same_bytes (take 6 line) (codes "enter ")) (option_map Enter (word_in (drop 6 line)))
    (cond (same_bytes (take 7 line) (codes "strike ")) (option_map Strike (word_in (drop 7 line))) None)
