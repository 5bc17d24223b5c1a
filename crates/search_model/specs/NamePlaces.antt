-- A name in place: its bytes at the front of 24 places.
use Rattle.std.specs.Prelude.{ℕ, List, take}
use Rattle.search_model.specs.Names.{IsName}
use Rattle.search_model.specs.PathPlaces.{IsPadded}

pub record IsNamePlaces (places : List ℕ) (len : ℕ) : Type 0 where
  pub padded : IsPadded 24 places len
  pub name : IsName (take len places)
