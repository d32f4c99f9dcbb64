-- The nodes of the pieces that stand for no name.
use Rattle.std.specs.Prelude.{ℕ, List, [], Option, Some, None}
use Rattle.mc_tree.specs.declared.place.Place.{Place}
use Rattle.mc_prog.specs.declared.program.Form.{Form}
use Rattle.mc_prog.specs.declared.program.Form.TheVariants as form
use Rattle.mc_prog.specs.declared.program.Node.{Node}
use Rattle.mc_prog.specs.declared.typing.Meaning.{Meaning}
use Rattle.mc_prog.specs.Constants.{word_of}
use Rattle.mc_prog.specs.Nodes.{maybe_node, one_node, product_form, relation_form, sign_form, sum_form}
use Rattle.mc_pieces.specs.declared.piece.Construct.{Construct}
use Rattle.mc_pieces.specs.declared.piece.Construct.TheVariants as construct

-- the form of a node that has the parts of its piece
abbrev pub whole_form : Construct → Option Form
whole_form (construct.Number w) = None
whole_form (construct.Character c) = None
whole_form (construct.Text t) = None
whole_form (construct.Name id) = None
whole_form (construct.Select id) = None
whole_form construct.Index = Some form.Index
whole_form construct.Designated = None
whole_form (construct.Calling id) = None
whole_form construct.Group = Some form.Parenthesis
whole_form construct.Negation = Some form.Not
whole_form construct.Bits = None
whole_form construct.Element = None
whole_form (construct.Signed s) = Some (sign_form s)
whole_form (construct.Sum o) = Some (sum_form o)
whole_form (construct.Product o) = Some (product_form o)
whole_form (construct.Comparison r) = Some (relation_form r)
whole_form construct.Assignment = Some form.Assign
whole_form (construct.Statement id) = None
whole_form construct.If = Some form.If
whole_form construct.While = Some form.While
whole_form construct.Repeat = Some form.Repeat
whole_form construct.Loop = Some form.Loop
whole_form construct.When = Some form.When
whole_form construct.Case = Some form.Case
whole_form construct.Arm = Some form.Arm
whole_form construct.Label = None
whole_form construct.Body = Some form.Body
whole_form (construct.TypeName id) = None
whole_form (construct.Enumeration n) = None
whole_form (construct.EnumerationValue id) = None
whole_form construct.Range = None
whole_form construct.Array = None
whole_form construct.Record = None
whole_form (construct.FieldGroup names) = None
whole_form (construct.Constant id) = None
whole_form (construct.TypeDeclaration id) = None
whole_form (construct.Variable id) = None
whole_form (construct.Parameter passing id) = None
whole_form construct.ResultType = None
whole_form (construct.Heading sort id) = None
whole_form (construct.Ending sort id) = None
whole_form (construct.Module sort id) = None
whole_form construct.Running = None

-- the nodes of a piece that stands for no name
abbrev pub plain_nodes : Place → Meaning → List ℕ → Construct → List Node
plain_nodes place m parts (construct.Number w) = one_node place m [] (form.Constant w)
plain_nodes place m parts (construct.Character c) = one_node place m [] (form.Constant c)
plain_nodes place m parts (construct.Text t) = one_node place m [] (form.Literal t.now)
plain_nodes place m parts (construct.Name id) = maybe_node place m parts (whole_form (construct.Name id))
plain_nodes place m parts (construct.Select id) = maybe_node place m parts (whole_form (construct.Select id))
plain_nodes place m parts construct.Index = maybe_node place m parts (whole_form construct.Index)
plain_nodes place m parts construct.Designated = maybe_node place m parts (whole_form construct.Designated)
plain_nodes place m parts (construct.Calling id) = maybe_node place m parts (whole_form (construct.Calling id))
plain_nodes place m parts construct.Group = maybe_node place m parts (whole_form construct.Group)
plain_nodes place m parts construct.Negation = maybe_node place m parts (whole_form construct.Negation)
plain_nodes place m parts construct.Bits = one_node place m [] (form.Constant (word_of m))
plain_nodes place m parts construct.Element = maybe_node place m parts (whole_form construct.Element)
plain_nodes place m parts (construct.Signed s) = maybe_node place m parts (whole_form (construct.Signed s))
plain_nodes place m parts (construct.Sum o) = maybe_node place m parts (whole_form (construct.Sum o))
plain_nodes place m parts (construct.Product o) = maybe_node place m parts (whole_form (construct.Product o))
plain_nodes place m parts (construct.Comparison r) = maybe_node place m parts (whole_form (construct.Comparison r))
plain_nodes place m parts construct.Assignment = maybe_node place m parts (whole_form construct.Assignment)
plain_nodes place m parts (construct.Statement id) = maybe_node place m parts (whole_form (construct.Statement id))
plain_nodes place m parts construct.If = maybe_node place m parts (whole_form construct.If)
plain_nodes place m parts construct.While = maybe_node place m parts (whole_form construct.While)
plain_nodes place m parts construct.Repeat = maybe_node place m parts (whole_form construct.Repeat)
plain_nodes place m parts construct.Loop = maybe_node place m parts (whole_form construct.Loop)
plain_nodes place m parts construct.When = maybe_node place m parts (whole_form construct.When)
plain_nodes place m parts construct.Case = maybe_node place m parts (whole_form construct.Case)
plain_nodes place m parts construct.Arm = maybe_node place m parts (whole_form construct.Arm)
plain_nodes place m parts construct.Label = one_node place m [] (form.Constant (word_of m))
plain_nodes place m parts construct.Body = maybe_node place m parts (whole_form construct.Body)
plain_nodes place m parts (construct.TypeName id) = maybe_node place m parts (whole_form (construct.TypeName id))
plain_nodes place m parts (construct.Enumeration n) = maybe_node place m parts (whole_form (construct.Enumeration n))
plain_nodes place m parts (construct.EnumerationValue id) = maybe_node place m parts (whole_form (construct.EnumerationValue id))
plain_nodes place m parts construct.Range = maybe_node place m parts (whole_form construct.Range)
plain_nodes place m parts construct.Array = maybe_node place m parts (whole_form construct.Array)
plain_nodes place m parts construct.Record = maybe_node place m parts (whole_form construct.Record)
plain_nodes place m parts (construct.FieldGroup names) = maybe_node place m parts (whole_form (construct.FieldGroup names))
plain_nodes place m parts (construct.Constant id) = maybe_node place m parts (whole_form (construct.Constant id))
plain_nodes place m parts (construct.TypeDeclaration id) = maybe_node place m parts (whole_form (construct.TypeDeclaration id))
plain_nodes place m parts (construct.Variable id) = maybe_node place m parts (whole_form (construct.Variable id))
plain_nodes place m parts (construct.Parameter passing id) = maybe_node place m parts (whole_form (construct.Parameter passing id))
plain_nodes place m parts construct.ResultType = maybe_node place m parts (whole_form construct.ResultType)
plain_nodes place m parts (construct.Heading sort id) = maybe_node place m parts (whole_form (construct.Heading sort id))
plain_nodes place m parts (construct.Ending sort id) = maybe_node place m parts (whole_form (construct.Ending sort id))
plain_nodes place m parts (construct.Module sort id) = maybe_node place m parts (whole_form (construct.Module sort id))
plain_nodes place m parts construct.Running = maybe_node place m parts (whole_form construct.Running)
