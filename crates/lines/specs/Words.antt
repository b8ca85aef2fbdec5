-- The words of a line.
use Rattle.std.specs.Prelude.{ℕ, List, [], ◌∷◌, codes, decimal}
use Rattle.std.specs.Fmt.{signed_decimal}
use Rattle.told.specs.declared.Told.{Told}
use Rattle.rig.specs.declared.pages.Page.{Page}

-- of a page of a port of ratio n/d
abbrev pub page_words : ℕ → ℕ → Page → List (List ℕ)
page_words n d p =
    decimal p.entries ∷ decimal n ∷ decimal d ∷ decimal p.start ∷ decimal p.end ∷ decimal p.absorbed ∷ decimal p.dropped ∷ signed_decimal p.swing ∷ decimal p.shortened ∷ []

-- of a refusal
abbrev pub refusal_words : Told → List (List ℕ)
refusal_words t = codes "refused" ∷ decimal t.layer ∷ decimal t.number ∷ decimal t.place ∷ []
