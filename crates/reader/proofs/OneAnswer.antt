-- The contract of the reader leaves one answer.
use Rattle.std.proofs.Common.{◌≡◌, ℕ, List, [], ◌∷◌, length, get_or, Ok, Err, Result, MatchResult, sym, ap, ◌∙◌, subst, ⊎_elim, arith}
use Rattle.std.proofs.lemmas.Bool.{cases_order}
use Rattle.cut.specs.Cuts.{bytes}
use Rattle.cut.specs.declared.Span.{Span}
use Rattle.values.specs.Values.{Valued}
use Rattle.values.proofs.Numerals.{valued_same}
use Rattle.values.proofs.OneValue.{same_value}
use Rattle.reader.specs.declared.LineKind.TheVariants.{Part}
use Rattle.reader.specs.declared.Node.{Node}
use Rattle.reader.specs.declared.Element.{Element}
use Rattle.refusals.specs.declared.Fault.{Fault}
use Rattle.reader.specs.declared.Listing.{Listing}
use Rattle.reader.specs.declared.PortRecord.{PortRecord}
use Rattle.reader.specs.Lines.{nth, Line, PartLine, PortLine}
use Rattle.reader.specs.Records.{NumberIs, ElementIs, PortIs, Elements, Ports}
use Rattle.reader.specs.Answers.{Reads, Refuses, SameAnswer, Only}
use Rattle.refusals.proofs.Lesser.{same_number}
use Rattle.reader.proofs.Once.{records_once, nodes_once}
use Rattle.reader.proofs.Steps.{stands_same}

number_once : (t : List ℕ) (ns : List Node) (s : Span) (i j : ℕ) → NumberIs t ns s i → NumberIs t ns s j → i ≡ j
number_once t ns s i j a b =
    let d : Node = record { name = s } in
    ⊎_elim (λ e. e) (⊎_elim (λ l. absurd (b.2 i d (omega arith) l (a.1 d))) (λ l. absurd (a.2 j d (omega arith) l (b.1 d)))) (cases_order i j)

element_once : (t : List ℕ) (ns : List Node) (l : Line) (x y : Element) → ElementIs t ns l x → ElementIs t ns l y → x ≡ y
element_once t ns l x y a b =
    let n = a.name ∙ sym b.name in
    let k : Part x.kind ≡ Part y.kind = stands_same t l (Part x.kind) (Part y.kind) a.kind b.kind in
    let s : x.kind ≡ y.kind = cc in
    let f = number_once t ns (nth l.fields 1) x.ends.from.index y.ends.from.index a.from b.from in
    let o = number_once t ns (nth l.fields 2) x.ends.to.index y.ends.to.index a.to b.to in
    let v = same_value x.value y.value (valued_same y.kind (bytes t (nth l.fields 3)) x.value.value y.value.value (subst (λ c. Valued c (bytes t (nth l.fields 3)) x.value.value) s a.value) b.value) in
    λ i. record { name = n i; kind = s i; ends = record { from = record { index = f i }; to = record { index = o i } }; value = v i }

port_once : (t : List ℕ) (ns : List Node) (l : Line) (x y : PortRecord) → PortIs t ns l x → PortIs t ns l y → x ≡ y
port_once t ns l x y a b =
    let n = a.name ∙ sym b.name in
    let f = number_once t ns (nth l.fields 1) x.ends.from.index y.ends.from.index a.from b.from in
    let o = number_once t ns (nth l.fields 2) x.ends.to.index y.ends.to.index a.to b.to in
    λ i. record { name = n i; ends = record { from = record { index = f i }; to = record { index = o i } } }

module _ (t : List ℕ) where
  -- two readings are one
  one_reading : (d d' : Listing) → Reads t d → Reads t d' → SameAnswer (Ok d) (Ok d')
  one_reading d d' a b =
      let ns = d'.nodes in
      let n = nodes_once t (length t) d.nodes ns a.nodes b.nodes in (
        n,
        records_once (PartLine t) (ElementIs t ns) (λ e. e.name.place) t (length t) (element_once t ns) d.elements d'.elements (subst (λ m. Elements t (length t) m d.elements) n a.elements) b.elements,
        ap (λ l. get_or l 0 d.port) (records_once (PortLine t) (PortIs t ns) (λ p. p.name.place) t (length t) (port_once t ns) (d.port ∷ []) (d'.port ∷ []) (subst (λ m. Ports t (length t) m (d.port ∷ [])) n a.port) b.port),
      )

  -- two refusals are one
  one_refusal : (f g : Fault) → Refuses t f → Refuses t g → f ≡ g
  one_refusal f g a b =
      let u = a.1 g.place g.rule b.0 in
      let v = b.1 f.place f.rule a.0 in
      let p : f.place ≡ g.place = omega (arith, u.0, v.0) in
      let r : f.rule ≡ g.rule = same_number f.rule g.rule (let x = u.1 (sym p) in let y = v.1 p in omega (arith, x, y)) in
      λ i. record { place = p i; rule = r i }

  -- a text that is read is not refused
  not_both : (d : Listing) (f : Fault) → Reads t d → Refuses t f → ⊥
  not_both d f a b = a.clean f.place f.rule b.0

  pub only_answer : (r : Result Listing Fault) → MatchResult r (Reads t) (Refuses t) → Only t r
  only_answer (Ok d) a (Ok d') b = one_reading d d' a b
  only_answer (Ok d) a (Err f) b = not_both d f a b
  only_answer (Err f) a (Ok d) b = not_both d f b a
  only_answer (Err f) a (Err g) b = one_refusal f g a b
