use Rattle.value_cursor.specs.Bytes.{is_blank, is_uri, is_token, is_text, is_escapable}
use Rattle.value_cursor.proofs.ClassTable.{agrees, right, table-right}
use Rattle.value_cursor.proofs.classes.table.Goals as goal

pub returns : goal.returns
unfolding agrees right is_blank is_uri is_token is_text is_escapable
returns c = table-right _ tt
