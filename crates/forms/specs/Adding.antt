-- What the labels and the counts hold once the first k branches are added.
use Rattle.std.specs.Prelude.{◌≡◌, Bool, ℕ}
use Rattle.numbers.specs.Choose.{least}
use Rattle.numbers.specs.Counts.{count}
use Rattle.numbers.specs.UpTo.{table}
use Rattle.graph.specs.Graph.{Net}
use Rattle.graph.specs.Form.{label, closes, links}
use Rattle.forms.specs.declared.form.Added.{Added}

pub record Adding (N : Net) (E : ℕ → Bool) (k : ℕ) (added : Added) : Type 0 where
  pub labelled : added.label ≡ table (label N E k) 256
  pub first : added.closing ≡ least (closes N E) k
  pub linked : added.links ≡ count (links N E) k

-- once all are added
pub record AllAdded (N : Net) (E : ℕ → Bool) (added : Added) : Type 0 where
  pub first : added.closing ≡ least (closes N E) N.branches
  pub linked : added.links ≡ count (links N E) N.branches
