-- The answer to a text: its records, or its first fault.
use Rattle.std.specs.Prelude.{◌≡◌, ℕ, List, [], ◌∷◌, length, Some, None, Ok, Err, Result, MatchResult}
use Rattle.refusals.specs.declared.Fault.{Fault}
use Rattle.reader.specs.declared.Node.{Node}
use Rattle.reader.specs.declared.Element.{Element}
use Rattle.reader.specs.declared.PortRecord.{PortRecord}
use Rattle.reader.specs.declared.Listing.{Listing}
use Rattle.refusals.specs.Order.{Least}
use Rattle.reader.specs.Records.{Nodes, Elements, Ports}
use Rattle.reader.specs.Faults.{FaultAt}

-- the nodes, the elements and the port of a listing
abbrev pub nodes_of : Listing → List Node
nodes_of d = d.nodes

abbrev pub elements_of : Listing → List Element
elements_of d = d.elements

abbrev pub port_of : Listing → PortRecord
port_of d = d.port

-- what is read has no fault, and its records are those of the text
pub record Whole (t : List ℕ) (ns : List Node) (es : List Element) (p : PortRecord) : Type 0 where
  pub clean : Least (FaultAt t) None
  pub nodes : Nodes t (length t) ns
  pub elements : Elements t (length t) ns es
  pub port : Ports t (length t) ns (p ∷ [])

-- the text is read as d
abbrev pub Reads : List ℕ → Listing → Type 0
Reads t d = Whole t (nodes_of d) (elements_of d) (port_of d)

-- the text is refused by f
abbrev pub Refuses : List ℕ → Fault → Type 0
Refuses t f = Least (FaultAt t) (Some f)

-- two answers say the same
abbrev pub SameAnswer : Result Listing Fault → Result Listing Fault → Type 0
SameAnswer (Ok d) (Ok d') = (nodes_of d ≡ nodes_of d') × (elements_of d ≡ elements_of d') × (port_of d ≡ port_of d')
SameAnswer (Ok d) (Err f) = ⊥
SameAnswer (Err f) (Ok d) = ⊥
SameAnswer (Err f) (Err f') = f ≡ f'

-- the text has no other answer
abbrev pub Only : List ℕ → Result Listing Fault → Type 0
Only t r = (r' : Result Listing Fault) → MatchResult r' (Reads t) (Refuses t) → SameAnswer r r'
