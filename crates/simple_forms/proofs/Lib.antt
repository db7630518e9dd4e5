mod FormsOfFiles
